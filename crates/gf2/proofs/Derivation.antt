-- The formal derivative is additive and keeps the product rule.
use Rattle.std.proofs.Common.{◌≡◌, ℕ, zero, suc, ◌*◌, ◌/◌, ◌≤◌, sym, refl, ap, ◌∙◌, ap₂, le_refl, not-suc-le-zero, zero-lt-suc, mul-div_cancel}
use native.Mathlib.Decide.{le_ind}
use lib.Arith.{bin_ind, half_le}
use lib.Bits.{bit_xor, xor_shr, xor_assoc}
use Rattle.gf2.specs.Algebra.{product, derivative_by, derivative}
use Rattle.gf2.proofs.Sums.{Additive, agree, xor_double, xor_swap}
use Rattle.gf2.proofs.Ring.{mul_sum_l, mul_one_l, mul_zero_l, mul_x_l}

more : (n a : ℕ) → a ≤ n → derivative_by (suc n) a ≡ derivative_by n a
more zero zero h = refl
more zero (suc a) h = absurd (not-suc-le-zero h)
more (suc n) zero h = refl
more (suc n) (suc a) h = ap (λ (z : ℕ). bit_xor (suc a / 2) (z * 2)) (more n (suc a / 2) (half_le h))

enough : (n a : ℕ) → a ≤ n → derivative_by n a ≡ derivative_by a a
enough n a h = le_ind (λ (m : ℕ). derivative_by m a ≡ derivative_by a a) refl (λ m k e. more m a k ∙ e) n h

pub derivative_step : (a : ℕ) → derivative a ≡ bit_xor (a / 2) (derivative (a / 2) * 2)
unfolding derivative
derivative_step zero = refl
derivative_step (suc a) = ap (λ (z : ℕ). bit_xor (suc a / 2) (z * 2)) (enough a (suc a / 2) (half_le (le_refl (suc a))))

pub derivative_zero : derivative 0 ≡ 0
unfolding derivative
derivative_zero = refl

pub derivative_additive : Additive derivative
derivative_additive =
    bin_ind (λ (a : ℕ). (b : ℕ) → derivative (bit_xor a b) ≡ bit_xor (derivative a) (derivative b))
    (λ b. ap (λ (z : ℕ). bit_xor z (derivative b)) (sym derivative_zero))
    (λ a ih b. derivative_step (bit_xor a b)
    ∙ ap (λ (z : ℕ). bit_xor z (derivative z * 2)) (xor_shr a b 1)
    ∙ ap (λ (z : ℕ). bit_xor (bit_xor (a / 2) (b / 2)) z) (ap (λ (z : ℕ). z * 2) (ih (b / 2)) ∙ xor_double (derivative (a / 2)) (derivative (b / 2)))
    ∙ xor_swap (a / 2) (b / 2) (derivative (a / 2) * 2) (derivative (b / 2) * 2)
    ∙ sym (ap₂ bit_xor (derivative_step a) (derivative_step b)))

-- (x·a)' = a + x·a'
pub derivative_x : (a : ℕ) → derivative (a * 2) ≡ bit_xor a (derivative a * 2)
derivative_x a = derivative_step (a * 2) ∙ ap (λ (z : ℕ). bit_xor z (derivative z * 2)) (mul-div_cancel a (zero-lt-suc 1))

pub derivative_one : derivative 1 ≡ 0
unfolding derivative
derivative_one = refl

pub derivative_product : (a b : ℕ) → derivative (product a b) ≡ bit_xor (product (derivative a) b) (product a (derivative b))
derivative_product =
    agree (λ a b. derivative (product a b)) (λ a b. bit_xor (product (derivative a) b) (product a (derivative b)))
    (λ b a c. ap derivative (mul_sum_l b a c) ∙ derivative_additive (product a b) (product c b))
    (λ b a c.
    ap₂ bit_xor (ap (λ (z : ℕ). product z b) (derivative_additive a c) ∙ mul_sum_l b (derivative a) (derivative c)) (mul_sum_l (derivative b) a c)
    ∙ xor_swap (product (derivative a) b) (product (derivative c) b) (product a (derivative b)) (product c (derivative b)))
    (λ b. ap derivative (mul_one_l b)
    ∙ sym (ap₂ bit_xor (ap (λ (z : ℕ). product z b) derivative_one ∙ mul_zero_l b) (mul_one_l (derivative b))))
    (λ a ih b. ap derivative (mul_x_l a b) ∙ derivative_x (product a b) ∙ ap (λ (z : ℕ). bit_xor (product a b) (z * 2)) (ih b)
    ∙ ap (bit_xor (product a b)) (xor_double (product (derivative a) b) (product a (derivative b)))
    ∙ sym (ap₂ bit_xor
    (ap (λ (z : ℕ). product z b) (derivative_x a) ∙ mul_sum_l b a (derivative a * 2) ∙ ap (bit_xor (product a b)) (mul_x_l (derivative a) b))
    (mul_x_l a (derivative b))
    ∙ xor_assoc (product a b) (product (derivative a) b * 2) (product a (derivative b) * 2)))
