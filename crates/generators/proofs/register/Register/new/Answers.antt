use Rattle.std.proofs.Common.{rules, ◌≡◌, ℕ, ◌-◌, ◌/◌, ◌^◌, sym, ap, ◌∙◌, ap₂, arith, pow_pos}
use Rattle.generators.specs.Registers.{taps}
use Rattle.generators.specs.Taps.{taps_word}
use Rattle.generators.proofs.register.Register.new.Goals as goal

pub invariant_of-result : goal.invariant_of-result
invariant_of-result c =
    let m = c.in_ok-modulus.modulus in
    let same : m.polynomial ≡ c.args.polynomial = search rules in
    record {
      tapped =
          ap₂ (λ (x y : ℕ). x / 2 ^ (32 - y)) c.reverse_bits.ensures c.degree.ensures.value ∙ taps_word m.degree c.args.polynomial (omega arith)
          ∙ ap (λ (p : ℕ). taps p m.degree) (sym same);
      below = pow_pos m.degree;
    }
