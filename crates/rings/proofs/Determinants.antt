-- Determinants of any size: only entries inside the square count, and a last column of zeros gives 0.
use Rattle.std.proofs.Common.{◌≡◌, ℕ, zero, suc, ◌<◌, ◌≤◌, refl, ap, ◌∙◌, ap₂, ⊎_elim, arith}
use lib.Bits.{bit_xor}
use Rattle.gf2.proofs.Orders.{order}
use Rattle.gf2.specs.Algebra.{product}
use Rattle.gf2.proofs.Ring.{mul_zero_l, mul_comm}
use Rattle.rings.specs.Determinant.{Matrix, sum, skip, minor, determinant}

pub mul_zero_r : (a : ℕ) → product a 0 ≡ 0
mul_zero_r a = mul_comm a 0 ∙ mul_zero_l a

pub sum_same : (n : ℕ) (f g : ℕ → ℕ) → ((k : ℕ) → k < n → f k ≡ g k) → sum n f ≡ sum n g
unfolding sum
sum_same zero f g h = refl
sum_same (suc n) f g h = ap₂ bit_xor (sum_same n f g (λ k l. h k (omega arith))) (h n (omega arith))

pub sum_zero : (n : ℕ) (f : ℕ → ℕ) → ((k : ℕ) → k < n → f k ≡ 0) → sum n f ≡ 0
unfolding sum
sum_zero zero f h = refl
sum_zero (suc n) f h = ap₂ bit_xor (sum_zero n f (λ k l. h k (omega arith))) (h n (omega arith))

pub determinant_same : (n : ℕ) (m w : Matrix) → ((i j : ℕ) → i < n → j < n → m i j ≡ w i j) → determinant n m ≡ determinant n w
unfolding determinant
determinant_same zero m w h = refl
determinant_same (suc n) m w h =
    sum_same (suc n) (λ j. product (m n j) (determinant n (minor j m))) (λ j. product (w n j) (determinant n (minor j w)))
    (λ j l. ap₂ product (h n j (omega arith) l) (determinant_same n (minor j m) (minor j w) (λ i k p q. h i (skip j k) (omega arith) (omega arith))))

pub determinant_zero_column : (n : ℕ) (m : Matrix) → ((i : ℕ) → i ≤ n → m i n ≡ 0) → determinant (suc n) m ≡ 0
unfolding determinant
determinant_zero_column zero m h =
    sum_zero 1 (λ j. product (m 0 j) 1)
    (λ j l. let first : j ≡ 0 = omega arith in ap (λ (z : ℕ). product z 1) (ap (m 0) first ∙ h 0 (omega arith)) ∙ mul_zero_l 1)
determinant_zero_column (suc n) m h =
    sum_zero (suc (suc n)) (λ j. product (m (suc n) j) (determinant (suc n) (minor j m)))
    (λ j l. ⊎_elim
    (λ before.
    let last : skip j n ≡ suc n = omega arith in
    ap (product (m (suc n) j)) (determinant_zero_column n (minor j m) (λ i k. ap (m i) last ∙ h i (omega arith)))
    ∙ mul_zero_r (m (suc n) j))
    (λ from.
    let last : j ≡ suc n = omega arith in
    ap (λ (z : ℕ). product z (determinant (suc n) (minor j m))) (ap (m (suc n)) last ∙ h (suc n) (omega arith))
    ∙ mul_zero_l (determinant (suc n) (minor j m)))
    (order j (suc n)))
