-- The polynomial of n cells has degree n, and one more cell of the recurrence fits its word.
use Rattle.std.proofs.Common.{◌≡◌, ℕ, zero, suc, ◌+◌, ◌*◌, ◌/◌, ◌%◌, ◌^◌, ◌<◌, sym, refl, ap, ◌∙◌, subst, ap₂, lt_of_lt_of_le, mod-lt, zero-lt-suc, one-mul, zero-mul, add-one, one-add, arith, pow_mono}
use native.Mathlib.Nat.{div-eq_of_lt}
use lib.Bits.{bit_and, bit_xor, and_mask, xor_shr}
use Rattle.gf2.specs.Algebra.{product, Degree}
use Rattle.gf2.proofs.Ring.{mul_sum_l, mul_x_l, mul_one_l}
use Rattle.gf2.proofs.Division.{degree_product, degree_below, mul_digit}
use Rattle.gf2.proofs.Words.{shift_word}
use Rattle.rings.specs.Vectors.{rule, recurrence_from, recurrence}

pub rule_below : (v k : ℕ) → rule v k < 2
rule_below v k = mod-lt (v / 2 ^ k) (zero-lt-suc 1)

pub recurrence_step : (v k : ℕ) →
    recurrence_from (suc (suc k)) v ≡ bit_xor (product (bit_xor 2 (rule v k)) (recurrence_from (suc k) v)) (recurrence_from k v)
unfolding recurrence_from
recurrence_step v k = refl

pub recurrence_start : (v : ℕ) → (recurrence_from 0 v ≡ 0) × (recurrence_from 1 v ≡ 1)
unfolding recurrence_from
recurrence_start v = (refl, refl)

-- (x + c)·a
pub linear_factor : (c a : ℕ) → c < 2 → product (bit_xor 2 c) a ≡ bit_xor (a * 2) (c * a)
linear_factor c a h = mul_sum_l a 2 c ∙ ap₂ bit_xor (mul_x_l 1 a ∙ ap (λ (z : ℕ). z * 2) (mul_one_l a)) (mul_digit c a h)

-- x + c has degree 1
linear : (c : ℕ) → c < 2 → Degree (bit_xor 2 c) 1
linear zero h = refl
linear (suc zero) h = refl
linear (suc (suc c)) h = absurd (omega arith)

pub degrees : (v k : ℕ) → Degree (recurrence_from (suc k) v) k × (recurrence_from k v < 2 ^ k)
unfolding recurrence_from
degrees v zero = (refl, omega arith)
degrees v (suc k) =
    let h = degrees v k in
    let top = degree_product 1 k (bit_xor 2 (rule v k)) (recurrence_from (suc k) v) (linear (rule v k) (rule_below v k)) h.0 in
    let low = lt_of_lt_of_le h.1 (pow_mono {i = k} {j = suc k} (omega arith)) in (
      xor_shr (product (bit_xor 2 (rule v k)) (recurrence_from (suc k) v)) (recurrence_from k v) (suc k)
          ∙ ap₂ bit_xor (ap (λ (n : ℕ). product (bit_xor 2 (rule v k)) (recurrence_from (suc k) v) / 2 ^ n) (sym (one-add k)) ∙ top) (div-eq_of_lt low),
      degree_below (recurrence_from (suc k) v) k h.0,
    )

pub recurrence_degree : (n v : ℕ) → Degree (recurrence n v) n
unfolding recurrence
recurrence_degree n v = (degrees v n).0

-- ---- the loop: before and current are p_(k−1) and p_k

pub record Pair (v k before current : ℕ) : Type 0 where
  pub before_is : before ≡ recurrence_from k v
  pub current_is : current ≡ recurrence_from (suc k) v

pub pair_first : (v : ℕ) → Pair v 0 0 1
pair_first v = record { before_is = sym (recurrence_start v).0; current_is = sym (recurrence_start v).1 }

pub pair_last : (v n before current : ℕ) → Pair v n before current → current ≡ recurrence n v
unfolding recurrence
pair_last v n before current h = h.current_is

module _ (v k before current : ℕ) (few : k < 31) (h : Pair v k before current) where
  shifted : current * 2 % 2 ^ 32 ≡ current * 2
  shifted =
      shift_word 32 current (suc k)
      (subst (λ (z : ℕ). z < 2 ^ suc k) (sym h.current_is) (degree_below (recurrence_from (suc k) v) k (degrees v k).0))
      (omega arith)

  -- p_(k+1) from p_k and p_(k−1), for the own term of rule c
  next_is : (own : ℕ) → rule v k * current ≡ own → bit_xor (bit_xor (current * 2 % 2 ^ 32) own) before ≡ recurrence_from (suc (suc k)) v
  next_is own e =
      ap₂ (λ (x y : ℕ). bit_xor (bit_xor x y) before) shifted (sym e)
      ∙ ap (λ (z : ℕ). bit_xor z before) (sym (linear_factor (rule v k) current (rule_below v k)))
      ∙ ap₂ (λ (x y : ℕ). bit_xor (product (bit_xor 2 (rule v k)) x) y) h.current_is h.before_is
      ∙ sym (recurrence_step v k)

  pair_next : (own : ℕ) → rule v k * current ≡ own → Pair v (k + 1) current (bit_xor (bit_xor (current * 2 % 2 ^ 32) own) before)
  pair_next own e =
      subst (λ (n : ℕ). Pair v n current (bit_xor (bit_xor (current * 2 % 2 ^ 32) own) before)) (sym (add-one k))
      (record { before_is = h.current_is; current_is = next_is own e })

  pub pair_150 : bit_and (v / 2 ^ k) 1 ≡ 1 → Pair v (k + 1) current (bit_xor (bit_xor (current * 2 % 2 ^ 32) current) before)
  pair_150 e = pair_next current (ap (λ (z : ℕ). z * current) (sym (and_mask (v / 2 ^ k) 1) ∙ e) ∙ one-mul current)

  pub pair_90 : (bit_and (v / 2 ^ k) 1 ≡ 1 → ⊥) → Pair v (k + 1) current (bit_xor (bit_xor (current * 2 % 2 ^ 32) 0) before)
  pair_90 n =
      let low = rule_below v k in
      let ninety : rule v k ≡ 0 = omega (arith, and_mask (v / 2 ^ k) 1, n) in
      pair_next 0 (ap (λ (z : ℕ). z * current) ninety ∙ zero-mul current)
