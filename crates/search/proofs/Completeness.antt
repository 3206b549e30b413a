-- Every vector of a polynomial leads to a solution of its system, so solving the system misses none.
use Rattle.std.proofs.Common.{◌≡◌, ℕ, ◌^◌, ◌<◌, ◌≤◌, List, lt_of_lt_of_le, pow_mono, arith, sym, ap, ◌∙◌, subst}
use lib.Bits.{bit_xor}
use Rattle.gf2.specs.Algebra.{product}
use Rattle.gf2.proofs.Sums.{xor_cancel}
use Rattle.rings.specs.Vectors.{recurrence, recurrence_from}
use Rattle.rings.proofs.Degrees.{degrees}
use Rattle.generators.specs.Chosen.{chosen}
use Rattle.search.specs.declared.equations.Equation.{Equation}
use Rattle.search.specs.declared.span.Span.{Span}
use Rattle.search.specs.Identity.{image, Q}
use Rattle.search.specs.Systems.{evaluate, Solution, Solved, Unsolvable}
use Rattle.search.specs.Spans.{Covers, Complete}
use Rattle.search.proofs.Identity.{identity_whole}

-- what the system is to come to
abbrev pub constant : ℕ → ℕ
constant p = bit_xor (product p p) 1

image_is : (n v p : ℕ) → recurrence n v ≡ p → image p (recurrence_from n v) ≡ constant p
unfolding Q
image_is n v p e =
    let y = recurrence_from n v in
    subst (λ (q : ℕ). image q y ≡ constant q) e
    (sym (xor_cancel (product (recurrence n v) (recurrence n v)) (image (recurrence n v) y))
    ∙ ap (bit_xor (product (recurrence n v) (recurrence n v))) (identity_whole n v))

module _ (p n : ℕ) (few : n ≤ 31) (cs : List ℕ) (is : (y : ℕ) → y < 2 ^ n → chosen 0 bit_xor cs y ≡ image p y) (span : Span) where
  solution : (v : ℕ) → recurrence n v ≡ p → Solution cs (constant p) (recurrence_from n v)
  solution v e = is (recurrence_from n v) (degrees v n).1 ∙ image_is n v p e

  word : (v : ℕ) → recurrence_from n v < 2 ^ 32
  word v = let up : n ≤ 32 = omega arith in lt_of_lt_of_le (degrees v n).1 (pow_mono up)

  pub complete_none : Unsolvable 32 cs (constant p) → Complete p n span
  complete_none none v h e missed = none (recurrence_from n v) (word v) (solution v e)

  pub complete_some : (es : List Equation) → Solved 32 cs (constant p) 64 es → ((y : ℕ) → y < 2 ^ n → Covers span (evaluate es y)) → Complete p n span
  complete_some es solved covers v h e missed =
      let y = recurrence_from n v in
      let found = covers y (degrees v n).1 in
      missed found.0 found.1 (sym (solved.complete y (word v) (solution v e)) ∙ found.2)
