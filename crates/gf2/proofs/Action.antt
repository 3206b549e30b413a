-- A polynomial acting through a map: its lowest digit apart, then additive in the polynomial and, where the map is
-- additive, in what it acts on.
use Rattle.std.proofs.Common.{◌≡◌, ℕ, zero, suc, ◌*◌, ◌/◌, ◌%◌, ◌≤◌, sym, refl, ap, ◌∙◌, ap₂, le_refl, not-suc-le-zero, mod-lt, zero-lt-suc, one-mul, zero-mul, mul-div_cancel}
use native.Mathlib.Nat.{mul-mod_left}
use native.Mathlib.Decide.{le_ind}
use lib.Arith.{bin_ind, half_le}
use lib.Bits.{bit_xor, xor_zero_r, xor_shr, xor_mod}
use Rattle.gf2.specs.Algebra.{act_by, act}
use Rattle.gf2.proofs.Sums.{Additive, agree, digit_sum, xor_swap}

module _ (f : ℕ → ℕ) where
  more : (n a s : ℕ) → a ≤ n → act_by (suc n) f a s ≡ act_by n f a s
  more zero zero s h = refl
  more zero (suc a) s h = absurd (not-suc-le-zero h)
  more (suc n) zero s h = refl
  more (suc n) (suc a) s h = ap (bit_xor (suc a % 2 * s)) (more n (suc a / 2) (f s) (half_le h))

  enough : (n a s : ℕ) → a ≤ n → act_by n f a s ≡ act_by a f a s
  enough n a s h = le_ind (λ (m : ℕ). act_by m f a s ≡ act_by a f a s) refl (λ m k e. more m a s k ∙ e) n h

  pub act_step : (a s : ℕ) → act f a s ≡ bit_xor (a % 2 * s) (act f (a / 2) (f s))
  unfolding act
  act_step zero s = sym (ap (λ (z : ℕ). bit_xor z 0) (zero-mul s))
  act_step (suc a) s = ap (bit_xor (suc a % 2 * s)) (enough a (suc a / 2) (f s) (half_le (le_refl (suc a))))

  pub act_zero : (s : ℕ) → act f 0 s ≡ 0
  unfolding act
  act_zero s = refl

  pub act_one : (s : ℕ) → act f 1 s ≡ s
  act_one s = act_step 1 s ∙ ap₂ bit_xor (one-mul s) (act_zero (f s)) ∙ xor_zero_r s

  -- x·a acts as a on the image
  pub act_double : (a s : ℕ) → act f (a * 2) s ≡ act f a (f s)
  act_double a s =
      act_step (a * 2) s
      ∙ ap₂ (λ (x y : ℕ). bit_xor (x * s) (act f y (f s))) (mul-mod_left a 2) (mul-div_cancel a (zero-lt-suc 1))
      ∙ ap (λ (z : ℕ). bit_xor z (act f a (f s))) (zero-mul s)

  pub act_additive : (s : ℕ) → Additive (λ a. act f a s)
  act_additive s a b =
      bin_ind (λ (a : ℕ). (b s : ℕ) → act f (bit_xor a b) s ≡ bit_xor (act f a s) (act f b s))
      (λ b s. ap (λ (z : ℕ). bit_xor z (act f b s)) (sym (act_zero s)))
      (λ a ih b s. act_step (bit_xor a b) s
      ∙ ap₂ (λ (x y : ℕ). bit_xor (x * s) (act f y (f s))) (xor_mod a b 1) (xor_shr a b 1)
      ∙ ap₂ bit_xor (digit_sum (a % 2) (b % 2) s (mod-lt a (zero-lt-suc 1)) (mod-lt b (zero-lt-suc 1))) (ih (b / 2) (f s))
      ∙ xor_swap (a % 2 * s) (b % 2 * s) (act f (a / 2) (f s)) (act f (b / 2) (f s))
      ∙ sym (ap₂ bit_xor (act_step a s) (act_step b s)))
      a b s

  module _ (hf : Additive f) where
    -- the map passes through
    pub act_commutes : (a s : ℕ) → act f a (f s) ≡ f (act f a s)
    act_commutes =
        agree (λ a s. act f a (f s)) (λ a s. f (act f a s)) (λ s. act_additive (f s))
        (λ s a b. ap f (act_additive s a b) ∙ hf (act f a s) (act f b s))
        (λ s. act_one (f s) ∙ sym (ap f (act_one s)))
        (λ a ih s. act_double a (f s) ∙ ih (f s) ∙ ap f (sym (act_double a s)))

    -- additive in what is acted on
    pub act_sum : (t a s : ℕ) → act f a (bit_xor s t) ≡ bit_xor (act f a s) (act f a t)
    act_sum t a s =
        agree {S = ℕ × ℕ} (λ a s. act f a (bit_xor s.0 s.1)) (λ a s. bit_xor (act f a s.0) (act f a s.1))
        (λ s. act_additive (bit_xor s.0 s.1))
        (λ s a b. ap₂ bit_xor (act_additive s.0 a b) (act_additive s.1 a b)
        ∙ xor_swap (act f a s.0) (act f b s.0) (act f a s.1) (act f b s.1))
        (λ s. act_one (bit_xor s.0 s.1) ∙ sym (ap₂ bit_xor (act_one s.0) (act_one s.1)))
        (λ a ih s. act_double a (bit_xor s.0 s.1) ∙ ap (act f a) (hf s.0 s.1) ∙ ih (f s.0, f s.1)
        ∙ sym (ap₂ bit_xor (act_double a s.0) (act_double a s.1)))
        a (s, t)
