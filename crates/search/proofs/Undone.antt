-- The recurrence backwards: from the last two polynomials of a vector its last rule, and the polynomial before them.
use Rattle.std.proofs.Common.{◌≡◌, ℕ, zero, suc, ◌+◌, ◌*◌, ◌/◌, ◌%◌, ◌^◌, ◌<◌, sym, ap, ◌∙◌, subst, ap₂, one-mul, div-add-mod', zero-mul, add-one, arith, pow_pos, shr-shr}
use native.Mathlib.Nat.{div-eq_of_lt}
use lib.Pow.{shr_le}
use lib.Bits.{bit_and, bit_or, bit_xor, and_mask, or_shifted, xor_shr, xor_zero_r}
use Rattle.gf2.specs.Algebra.{product}
use Rattle.gf2.proofs.Sums.{sums}
use Rattle.gf2.proofs.Division.{degree_below}
use Rattle.gf2.proofs.Words.{shift_word}
use Rattle.rings.specs.Vectors.{rule, recurrence, recurrence_from}
use Rattle.rings.proofs.Degrees.{rule_below, recurrence_step, linear_factor, degrees}

-- above and below are p_k and p_(k−1), and the rules from cell k + 1 on are read
pub record Undone (v k above below read : ℕ) : Type 0 where
  pub above_is : above ≡ recurrence_from (suc k) v
  pub below_is : below ≡ recurrence_from k v
  pub read_is : read ≡ v / 2 ^ k

pub undone_start : (n v p y : ℕ) → v < 2 ^ n → recurrence n v ≡ p → recurrence_from n v ≡ y → Undone v n p y 0
unfolding recurrence
undone_start n v p y h e f = record { above_is = sym e; below_is = sym f; read_is = sym (div-eq_of_lt h) }

cancelled : (x c z : ℕ) → bit_xor (bit_xor (bit_xor x c) z) x ≡ bit_xor c z
cancelled x c z = simp sums

module _ (v k above below read : ℕ) (few : k < 31) (small : v < 2 ^ 31) (u : Undone v (suc k) above below read) where
  abbrev c : ℕ
  c = rule v k

  abbrev z : ℕ
  z = recurrence_from k v

  shifted : below * 2 % 2 ^ 32 ≡ below * 2
  shifted =
      shift_word 32 below (suc k)
      (subst (λ (w : ℕ). w < 2 ^ suc k) (sym u.below_is) (degree_below (recurrence_from (suc k) v) k (degrees v k).0))
      (omega arith)

  abbrev rest : ℕ
  rest = bit_xor above (below * 2 % 2 ^ 32)

  -- p_(k+1) + x·p_k = c_(k+1)·p_k + p_(k−1)
  rest_is : rest ≡ bit_xor (c * below) z
  rest_is =
      ap₂ bit_xor
      (u.above_is ∙ recurrence_step v k
      ∙ ap (λ (w : ℕ). bit_xor w z) (ap (product (bit_xor 2 c)) (sym u.below_is) ∙ linear_factor c below (rule_below v k)))
      shifted
      ∙ cancelled (below * 2) (c * below) z

  scaled_top : (d : ℕ) → d < 2 → d * below / 2 ^ k ≡ d
  scaled_top zero h = ap (λ (w : ℕ). w / 2 ^ k) (zero-mul below) ∙ div-eq_of_lt (pow_pos k)
  scaled_top (suc zero) h = ap (λ (w : ℕ). w / 2 ^ k) (one-mul below) ∙ ap (λ (w : ℕ). w / 2 ^ k) u.below_is ∙ (degrees v k).0
  scaled_top (suc (suc d)) h = absurd (omega arith)

  -- the highest digit is the rule
  digit_is : bit_and (rest / 2 ^ k) 1 ≡ c
  digit_is =
      and_mask (rest / 2 ^ k) 1
      ∙ ap (λ (w : ℕ). w % 2)
      (ap (λ (w : ℕ). w / 2 ^ k) rest_is ∙ xor_shr (c * below) z k
      ∙ ap₂ bit_xor (scaled_top c (rule_below v k)) (div-eq_of_lt (degrees v k).1) ∙ xor_zero_r c)
      ∙ omega (arith, rule_below v k)

  read_next : bit_or (read * 2 % 2 ^ 32) (bit_and (rest / 2 ^ k) 1) ≡ v / 2 ^ k
  read_next =
      let short : read < 2 ^ 31 = omega (arith, u.read_is, shr_le v (suc k)) in
      let half : v / 2 ^ k / 2 ≡ read = shr-shr v k 1 ∙ ap (λ (n : ℕ). v / 2 ^ n) (add-one k) ∙ sym u.read_is in
      ap₂ bit_or (shift_word 32 read 31 short (omega arith)) digit_is ∙ or_shifted read 1 c (rule_below v k)
      ∙ ap (λ (w : ℕ). w * 2 + c) (sym half) ∙ div-add-mod' (v / 2 ^ k) 2

  pub undone_next : (own : ℕ) → own ≡ bit_and (rest / 2 ^ k) 1 * below → Undone v k below (bit_xor rest own) (bit_or (read * 2 % 2 ^ 32) (bit_and (rest / 2 ^ k) 1))
  undone_next own e =
      record {
        above_is = u.below_is;
        below_is = ap₂ bit_xor rest_is (e ∙ ap (λ (d : ℕ). d * below) digit_is) ∙ again (c * below) z;
        read_is = read_next;
      }
    where
      again : (x y : ℕ) → bit_xor (bit_xor x y) x ≡ y
      again x y = simp sums
