-- The recurrence gives the determinant of xI + A.
use Rattle.std.proofs.Common.{◌≡◌, ℕ, zero, suc, ◌-◌, ◌<◌, ◌≤◌, sym, refl, ap, ◌∙◌, ap₂, arith}
use lib.Bits.{bit_xor, xor_zero_r, xor_comm}
use Rattle.gf2.specs.Algebra.{product}
use Rattle.gf2.proofs.Ring.{mul_zero_l, mul_one_l, mul_one_r}
use Rattle.rings.specs.Determinant.{Matrix, sum, skip, minor, determinant}
use Rattle.rings.specs.Vectors.{rule, distance, taken, diagonal, characteristic, polynomial_of, recurrence_from, recurrence}
use Rattle.rings.proofs.Determinants.{mul_zero_r, sum_zero, determinant_same, determinant_zero_column}

-- ---- the entries of xI + A, by their distance from the diagonal

entry : ℕ → ℕ → ℕ
entry c d = bit_xor (product 2 (diagonal d)) (taken c d)

entry_is : (v i j d : ℕ) → distance i j ≡ d → characteristic v i j ≡ entry (rule v i) d
unfolding characteristic entry
entry_is v i j d e = ap (entry (rule v i)) e

on_diagonal : (v i : ℕ) → characteristic v i i ≡ bit_xor 2 (rule v i)
unfolding entry
on_diagonal v i = entry_is v i i 0 (omega arith) ∙ ap (λ (z : ℕ). bit_xor z (rule v i)) (mul_one_r 2)

beside : (v i j : ℕ) → distance i j ≡ 1 → characteristic v i j ≡ 1
unfolding entry
beside v i j e = entry_is v i j 1 e ∙ ap (λ (z : ℕ). bit_xor z 1) (mul_zero_r 2)

far : (v i j : ℕ) → 2 ≤ distance i j → characteristic v i j ≡ 0
unfolding entry
far v i j h = entry_is v i j (suc (suc (distance i j - 2))) (omega arith) ∙ ap (λ (z : ℕ). bit_xor z 0) (mul_zero_r 2)

-- ---- two rows taken off

-- without the last of k + 2 rows, and column k
abbrev beside_last : ℕ → ℕ → Matrix
beside_last v k = minor k (characteristic v)

-- any column before k leaves the last one, which is far from all rows above row k
off_inner : (v k j : ℕ) → j < k → determinant k (minor j (beside_last v k)) ≡ 0
off_inner v zero j h = absurd (omega arith)
off_inner v (suc k) j h =
    determinant_zero_column k (minor j (beside_last v (suc k)))
    (λ i l. let last : skip (suc k) (skip j k) ≡ suc (suc k) = omega arith in ap (characteristic v i) last ∙ far v i (suc (suc k)) (omega arith))

module _ (v k : ℕ) where
  off_last : determinant (suc k) (minor (suc k) (characteristic v)) ≡ determinant (suc k) (characteristic v)
  off_last =
      determinant_same (suc k) (minor (suc k) (characteristic v)) (characteristic v)
      (λ i j p q. let same : skip (suc k) j ≡ j = omega arith in ap (characteristic v i) same)

  off_both : determinant k (minor k (beside_last v k)) ≡ determinant k (characteristic v)
  off_both =
      determinant_same k (minor k (beside_last v k)) (characteristic v)
      (λ i j p q. let same : skip k (skip k j) ≡ j = omega arith in ap (characteristic v i) same)

  -- of row k only its last entry counts, which is 1
  beside_last_is : determinant (suc k) (beside_last v k) ≡ determinant k (characteristic v)
  unfolding determinant sum
  beside_last_is =
      ap₂ bit_xor
      (sum_zero k (λ j. product (beside_last v k k j) (determinant k (minor j (beside_last v k))))
      (λ j h. ap (product (beside_last v k k j)) (off_inner v k j h) ∙ mul_zero_r (beside_last v k k j)))
      (ap₂ product last off_both ∙ mul_one_l (determinant k (characteristic v)))
    where
      last : beside_last v k k k ≡ 1
      last = let past : skip k k ≡ suc k = omega arith in ap (characteristic v k) past ∙ beside v k (suc k) (omega arith)

  -- of the last row only the entry on the diagonal and the one beside it count
  determinant_step :
      determinant (suc (suc k)) (characteristic v)
      ≡ bit_xor (product (bit_xor 2 (rule v (suc k))) (determinant (suc k) (characteristic v))) (determinant k (characteristic v))
  unfolding determinant sum
  determinant_step =
      ap₂ bit_xor
      (ap₂ bit_xor
      (sum_zero k (λ j. product (characteristic v (suc k) j) (determinant (suc k) (minor j (characteristic v))))
      (λ j h. ap (λ (z : ℕ). product z (determinant (suc k) (minor j (characteristic v)))) (far v (suc k) j (omega arith))
      ∙ mul_zero_l (determinant (suc k) (minor j (characteristic v)))))
      (ap₂ product (beside v (suc k) k (omega arith)) beside_last_is ∙ mul_one_l (determinant k (characteristic v))))
      (ap₂ product (on_diagonal v (suc k)) off_last)
      ∙ xor_comm (determinant k (characteristic v)) (product (bit_xor 2 (rule v (suc k))) (determinant (suc k) (characteristic v)))

-- ---- the recurrence

determinant_one : (v : ℕ) → determinant 1 (characteristic v) ≡ bit_xor (product (bit_xor 2 (rule v 0)) 1) 0
unfolding determinant sum
determinant_one v = ap (λ (z : ℕ). product z 1) (on_diagonal v 0) ∙ sym (xor_zero_r (product (bit_xor 2 (rule v 0)) 1))

-- two neighbours at a time
both : (n v : ℕ) → (determinant n (characteristic v) ≡ recurrence_from (suc n) v) × (determinant (suc n) (characteristic v) ≡ recurrence_from (suc (suc n)) v)
unfolding recurrence_from determinant
both zero v = (refl, determinant_one v)
both (suc n) v =
    let h = both n v in
    (h.1, determinant_step v n ∙ ap₂ (λ (x y : ℕ). bit_xor (product (bit_xor 2 (rule v (suc n))) x) y) h.1 h.0)

pub polynomial_recurrence : (n v : ℕ) → polynomial_of n v ≡ recurrence n v
unfolding polynomial_of recurrence
polynomial_recurrence n v = (both n v).0
