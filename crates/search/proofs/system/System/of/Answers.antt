use Rattle.std.proofs.Common.{◌≡◌, ℕ, ◌*◌, ◌%◌, ◌^◌, ◌<◌, get_or, subst, sym, rules, arith}
use lib.Pow.{pow-lt}
use Rattle.std.proofs.lemmas.Nat.{one_shl}
use Rattle.search.specs.Identity.{image}
use Rattle.search.proofs.Made.{made}
use Rattle.search.proofs.Spans.{image_additive, columns}
use Rattle.search.proofs.system.System.of.Goals as goal

pub returns-clause-columns : goal.returns-clause-columns
returns-clause-columns c =
    let m = c.args.modulus in
    let each : (j : ℕ) → j < m.degree → get_or c.from_fn.result j 0 ≡ image m.polynomial (2 ^ j) =
    λ j l. made _ _ (λ (j x : ℕ). j < m.degree → x ≡ image m.polynomial (2 ^ j))
    (λ i y q k. (
      search rules,
      λ l.
          let power : 1 * 2 ^ i % 2 ^ 32 ≡ 2 ^ i = one_shl i 32 (omega (arith, m.high)) in
          let small : 1 * 2 ^ i % 2 ^ 32 < 2 ^ 31 = subst (λ (z : ℕ). z < 2 ^ 31) (sym power) (pow-lt {i = i} {j = 31} (omega (arith, m.high))) in
          search (rules, power, small),
    ))
    c.from_fn.result 32 0 c.from_fn.ensures.items.each j 0 (omega arith) (omega (arith, m.high)) l in
    columns (image m.polynomial) (image_additive m.polynomial) c.from_fn.result m.degree (omega (arith, m.high, c.from_fn.ensures.items.long)) each
