-- Polynomials that act one after the other: a product acts as its factors in turn, a square through the map taken
-- twice, and modulo what acts as 0 only the remainder counts.
use Rattle.std.proofs.Common.{◌≡◌, ℕ, ◌*◌, ◌/◌, ◌%◌, ◌^◌, ◌<◌, sym, ap, ◌∙◌, mod-lt, zero-lt-suc, pow_pos}
use lib.Arith.{bin_ind}
use lib.Bits.{bit_xor, xor_lt}
use Rattle.gf2.specs.Algebra.{act, product, Leaves}
use Rattle.gf2.proofs.Sums.{Additive, agree, additive_zero}
use Rattle.gf2.proofs.Action.{act_step, act_zero, act_one, act_double, act_additive, act_commutes, act_sum}
use Rattle.gf2.proofs.Ring.{mul_one_l, mul_sum_l, mul_x_l, mul_x_r, mul_comm, ring}
use Rattle.gf2.proofs.Division.{digit_below}

module _ (f : ℕ → ℕ) (hf : Additive f) where
  pub act_product : (a b s : ℕ) → act f (product a b) s ≡ act f a (act f b s)
  act_product a b =
      agree (λ a s. act f (product a b) s) (λ a s. act f a (act f b s))
      (λ s a c. ap (λ (z : ℕ). act f z s) (mul_sum_l b a c) ∙ act_additive f s (product a b) (product c b))
      (λ s. act_additive f (act f b s))
      (λ s. ap (λ (z : ℕ). act f z s) (mul_one_l b) ∙ sym (act_one f (act f b s)))
      (λ a ih s. ap (λ (z : ℕ). act f z s) (mul_x_l a b) ∙ act_double f (product a b) s ∙ ih (f s)
      ∙ ap (act f a) (act_commutes f hf b s) ∙ sym (act_double f a (act f b s)))
      a

  pub act_swap : (a b s : ℕ) → act f a (act f b s) ≡ act f b (act f a s)
  act_swap a b s = sym (act_product a b s) ∙ ap (λ (z : ℕ). act f z s) (mul_comm a b) ∙ act_product b a s

  pub act_on_zero : (a : ℕ) → act f a 0 ≡ 0
  act_on_zero a = additive_zero (λ s. act f a s) (λ s t. act_sum f hf t a s)

  pub act_leaves : (a p r s : ℕ) → Leaves a p r → act f p s ≡ 0 → act f a s ≡ act f r s
  act_leaves a p r s l h =
      ap (λ (z : ℕ). act f z s) l.divides ∙ act_additive f s (product l.quotient p) r
      ∙ ap (λ (z : ℕ). bit_xor z (act f r s)) (act_product l.quotient p s ∙ ap (act f l.quotient) h ∙ act_on_zero l.quotient)

-- p·p only spreads the exponents of p
pub act_square : (f : ℕ → ℕ) (a s : ℕ) → act (λ t. f (f t)) a s ≡ act f (product a a) s
act_square f =
    agree (λ a s. act (λ t. f (f t)) a s) (λ a s. act f (product a a) s) (act_additive (λ t. f (f t)))
    (λ s a b. ap (λ (z : ℕ). act f z s) (squares a b) ∙ act_additive f s (product a a) (product b b))
    (λ s. act_one (λ t. f (f t)) s ∙ sym (ap (λ (z : ℕ). act f z s) (mul_one_l 1) ∙ act_one f s))
    (λ a ih s. act_double (λ t. f (f t)) a s ∙ ih (f (f s))
    ∙ sym (ap (λ (z : ℕ). act f z s) (mul_x_l a (a * 2) ∙ ap (λ (z : ℕ). z * 2) (mul_x_r a a)) ∙ act_double f (product a a * 2) s ∙ act_double f (product a a) (f s)))
  where
    squares : (a b : ℕ) → product (bit_xor a b) (bit_xor a b) ≡ bit_xor (product a a) (product b b)
    squares a b = simp ring

-- a map that keeps what is below 2^n there
module _ (n : ℕ) (f : ℕ → ℕ) (keeps : (s : ℕ) → s < 2 ^ n → f s < 2 ^ n) where
  pub act_below : (a s : ℕ) → s < 2 ^ n → act f a s < 2 ^ n
  act_below =
      bin_ind (λ (a : ℕ). (s : ℕ) → s < 2 ^ n → act f a s < 2 ^ n) (λ s h. rw (act_zero f s) (pow_pos n))
      (λ a ih s h. rw (act_step f a s)
      (xor_lt n (a % 2 * s) (act f (a / 2) (f s)) (digit_below (a % 2) s n (mod-lt a (zero-lt-suc 1)) h) (ih (f s) (keeps s h))))

  -- only what the map does there counts
  pub act_same : (g : ℕ → ℕ) → ((s : ℕ) → s < 2 ^ n → f s ≡ g s) → (a s : ℕ) → s < 2 ^ n → act f a s ≡ act g a s
  act_same g same =
      bin_ind (λ (a : ℕ). (s : ℕ) → s < 2 ^ n → act f a s ≡ act g a s) (λ s h. act_zero f s ∙ sym (act_zero g s))
      (λ a ih s h. act_step f a s ∙ ap (bit_xor (a % 2 * s)) (ih (f s) (keeps s h) ∙ ap (act g (a / 2)) (same s h)) ∙ sym (act_step g a s))
