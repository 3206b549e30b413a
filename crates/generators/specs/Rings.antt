-- The polynomial of a ring annihilates its step. By the rule of a cell, cell k of any state is cell 1 of p_(k−1) acting on
-- it. The cell past the last is 0, so cell 1 of p_n acting on any state is 0, and with it every cell.
use Rattle.std.specs.Prelude.{◌≡◌, ℕ, zero, suc, ◌+◌, ◌*◌, ◌%◌, ◌^◌, ◌<◌, ◌≤◌, bit_xor}
use Rattle.std.proofs.Math.Path.{sym, ap}
use Rattle.std.proofs.Common.{ap₂, ◌∙◌, subst, mod-lt, zero-lt-suc, arith, pow_pos}
use Rattle.std.proofs.lemmas.Nat.{xor_lt}
use Rattle.std.specs.Int.Bits.{xor_add_and}
use Rattle.gf2.specs.Algebra.{act, Degree}
use Rattle.gf2.proofs.Sums.{Additive, additive_zero, additive_digit}
use Rattle.gf2.proofs.Action.{act_one, act_double, act_additive}
use Rattle.gf2.proofs.Division.{digit_below}
use Rattle.gf2.proofs.Composition.{act_swap, act_below}
use Rattle.rings.specs.Vectors.{rule, recurrence_from, recurrence}
use Rattle.rings.specs.Cells.{cell, ring_next}
use Rattle.rings.proofs.Degrees.{rule_below, linear_factor, recurrence_start, recurrence_step, recurrence_degree}
use Rattle.rings.proofs.Cells.{cell_outside, cell_past, cell_below, cell_sum, cells_same}
use Rattle.rings.proofs.Steps.{ring_below, ring_cell, ring_sum}
use Rattle.generators.specs.Generators.{Lawful, plain}
use Rattle.generators.specs.Cells.{cell_of_zero, all_shown}

module _ (n v : ℕ) where
  abbrev N : ℕ → ℕ
  N = ring_next n v

  -- cell 1 of a acting on s
  abbrev pub first : ℕ → ℕ → ℕ
  first a s = cell n (act N a s) 1

  pub first_sum : (s : ℕ) → Additive (λ a. first a s)
  first_sum s a b = ap (λ (z : ℕ). cell n z 1) (act_additive N s a b) ∙ cell_sum n (act N a s) (act N b s) 1

  first_step : (k s : ℕ) →
      first (recurrence_from (suc (suc k)) v) s
      ≡ bit_xor (bit_xor (first (recurrence_from (suc k) v) (N s)) (rule v k * first (recurrence_from (suc k) v) s)) (first (recurrence_from k v) s)
  first_step k s =
      let a = recurrence_from (suc k) v in
      let b = recurrence_from k v in
      ap (λ (z : ℕ). first z s) (recurrence_step v k ∙ ap (λ (z : ℕ). bit_xor z b) (linear_factor (rule v k) a (rule_below v k)))
      ∙ first_sum s (bit_xor (a * 2) (rule v k * a)) b
      ∙ ap (λ (z : ℕ). bit_xor z (first b s))
      (first_sum s (a * 2) (rule v k * a)
      ∙ ap₂ bit_xor (ap (λ (z : ℕ). cell n z 1) (act_double N a s)) (additive_digit (λ z. first z s) (first_sum s) (rule v k) a (rule_below v k)))

  -- the rule of a cell, solved for its right neighbour
  solved : (a b d : ℕ) → a < 2 → b < 2 → d < 2 → bit_xor (bit_xor ((a + b + d) % 2) b) a ≡ d
  solved a b d ha hb hd =
      let x = (a + b + d) % 2 in
      let bit = xor_lt 1 (bit_xor x b) a (xor_lt 1 x b (mod-lt (a + b + d) (zero-lt-suc 1)) hb) ha in
      omega (arith, xor_add_and x b, xor_add_and (bit_xor x b) a, bit)

  pub cells_are : (k : ℕ) → k ≤ n →
      ((s : ℕ) → cell n s k ≡ first (recurrence_from k v) s) × ((s : ℕ) → cell n s (suc k) ≡ first (recurrence_from (suc k) v) s)
  cells_are zero h = (
    λ s. cell_outside n s ∙ sym (ap (λ (z : ℕ). first z s) (recurrence_start v).0 ∙ additive_zero (λ a. first a s) (first_sum s)),
    λ s. sym (ap (λ (z : ℕ). cell n (act N z s) 1) (recurrence_start v).1 ∙ ap (λ (z : ℕ). cell n z 1) (act_one N s)),
  )
  cells_are (suc k) h =
      let before = cells_are k (omega arith) in (
        before.1,
        λ s. sym
            (first_step k s
            ∙ ap₂ bit_xor
            (ap₂ (λ (x y : ℕ). bit_xor x (rule v k * y)) (sym (before.1 (N s)) ∙ ring_cell n v s k h) (sym (before.1 s)))
            (sym (before.0 s))
            ∙ solved (cell n s k) (rule v k * cell n s (suc k)) (cell n s (suc (suc k))) (cell_below n s k)
            (digit_below (rule v k) (cell n s (suc k)) 1 (rule_below v k) (cell_below n s (suc k)))
            (cell_below n s (suc (suc k)))),
      )

  pub annihilated : (s : ℕ) → s < 2 ^ n → act N (recurrence n v) s ≡ 0
  unfolding recurrence
  annihilated s h =
      let p = recurrence_from (suc n) v in
      cells_same n (act N p s) 0 (act_below n N (λ t l. ring_below n v t) p s h) (pow_pos n)
      (λ k l.
      let a = recurrence_from (suc k) v in
      (cells_are (suc k) l).0 (act N p s)
      ∙ ap (λ (z : ℕ). cell n z 1) (act_swap N (ring_sum n v) a p s)
      ∙ sym ((cells_are n (omega arith)).1 (act N a s)) ∙ cell_past n (act N a s) ∙ sym (cell_of_zero n (suc k)))

  pub ring_lawful : (p : ℕ) → p ≡ recurrence n v → 1 ≤ n → n ≤ 31 → Lawful (plain p n (ring_next n v))
  ring_lawful p e low high =
      record {
        leading = subst (λ (z : ℕ). Degree z n) (sym e) (recurrence_degree n v);
        some = low;
        few = high;
        next = record { below = λ s h. ring_below n v s; sum = λ s t h l. ring_sum n v s t };
        shown = all_shown n;
        annihilated = λ s h. ap (λ (z : ℕ). act N z s) e ∙ annihilated s h;
      }
