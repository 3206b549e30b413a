-- The ring laws of the product.
use Rattle.std.proofs.Common.{◌≡◌, ℕ, ◌*◌, sym, refl, ap, ◌∙◌}
use lib.Bits.{bit_xor}
use Rattle.gf2.specs.Algebra.{times_x, product}
use Rattle.gf2.proofs.Sums.{Additive, agree, xor_double, sums}
use Rattle.gf2.proofs.Action as action

pub mul_zero_l : (b : ℕ) → product 0 b ≡ 0
unfolding product
mul_zero_l b = action.act_zero times_x b

pub mul_one_l : (b : ℕ) → product 1 b ≡ b
unfolding product
mul_one_l b = action.act_one times_x b

-- (a + b)·c
pub mul_sum_l : (c : ℕ) → Additive (λ a. product a c)
unfolding product
mul_sum_l c = action.act_additive times_x c

-- a·(b + c)
pub mul_sum_r : (a b c : ℕ) → product a (bit_xor b c) ≡ bit_xor (product a b) (product a c)
unfolding product
mul_sum_r a b c = action.act_sum times_x xor_double c a b

pub mul_x_r : (a b : ℕ) → product a (b * 2) ≡ product a b * 2
unfolding product
mul_x_r a b = action.act_commutes times_x xor_double a b

pub mul_x_l : (a b : ℕ) → product (a * 2) b ≡ product a b * 2
unfolding product
mul_x_l a b = action.act_double times_x a b ∙ action.act_commutes times_x xor_double a b

pub mul_one_r : (a : ℕ) → product a 1 ≡ a
mul_one_r a =
    agree (λ a (s : Unit {0}). product a 1) (λ a s. a) (λ s. mul_sum_l 1) (λ s a b. refl) (λ s. mul_one_l 1)
    (λ a ih s. mul_x_l a 1 ∙ ap times_x (ih s)) a tt

pub mul_comm : (a b : ℕ) → product a b ≡ product b a
mul_comm =
    agree (λ a b. product a b) (λ a b. product b a) mul_sum_l (λ b a c. mul_sum_r b a c)
    (λ b. mul_one_l b ∙ sym (mul_one_r b))
    (λ a ih b. mul_x_l a b ∙ ap times_x (ih b) ∙ sym (mul_x_r b a))

pub mul_assoc : (a b c : ℕ) → product (product a b) c ≡ product a (product b c)
mul_assoc a b c =
    agree (λ a (s : Unit {0}). product (product a b) c) (λ a s. product a (product b c))
    (λ s a a'. ap (λ (z : ℕ). product z c) (mul_sum_l b a a') ∙ mul_sum_l c (product a b) (product a' b))
    (λ s. mul_sum_l (product b c))
    (λ s. ap (λ (z : ℕ). product z c) (mul_one_l b) ∙ sym (mul_one_l (product b c)))
    (λ a ih s. ap (λ (z : ℕ). product z c) (mul_x_l a b) ∙ mul_x_l (product a b) c ∙ ap times_x (ih s) ∙ sym (mul_x_l a (product b c)))
    a tt

pub mul_left_comm : (a b c : ℕ) → product a (product b c) ≡ product b (product a c)
mul_left_comm a b c = sym (mul_assoc a b c) ∙ ap (λ (z : ℕ). product z c) (mul_comm a b) ∙ mul_assoc b a c

-- identities of polynomials: multiplied out, sorted, and cancelled
pub ruleset ring = (mul_sum_l, mul_sum_r, mul_one_l, mul_one_r, mul_zero_l, mul_assoc, mul_comm, mul_left_comm, sums)
