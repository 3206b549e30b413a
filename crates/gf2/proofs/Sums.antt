-- Sums of polynomials, which are exclusive ors of numbers, and the one induction that the algebra rests on.
use Rattle.std.proofs.Common.{◌≡◌, ℕ, zero, suc, ◌*◌, ◌/◌, ◌%◌, ◌<◌, sym, ap, ◌∙◌, ap₂, add-zero, mod-lt, zero-lt-suc, one-mul, div-add-mod', zero-mul, arith, pow_pos}
use lib.Arith.{bin_ind}
use lib.Bits.{bit_xor, xor_assoc, xor_comm, xor_self, xor_zero_r, xor_block, xor_shr, xor_mod, xor_shifted}

pub xor_cancel : (a b : ℕ) → bit_xor a (bit_xor a b) ≡ b
xor_cancel a b = sym (xor_assoc a a b) ∙ ap (λ (z : ℕ). bit_xor z b) (xor_self a)

pub xor_left_comm : (a b c : ℕ) → bit_xor a (bit_xor b c) ≡ bit_xor b (bit_xor a c)
xor_left_comm a b c = sym (xor_assoc a b c) ∙ ap (λ (z : ℕ). bit_xor z c) (xor_comm a b) ∙ xor_assoc b a c

pub xor_swap : (a b c d : ℕ) → bit_xor (bit_xor a b) (bit_xor c d) ≡ bit_xor (bit_xor a c) (bit_xor b d)
xor_swap a b c d = xor_assoc a b (bit_xor c d) ∙ ap (bit_xor a) (xor_left_comm b c d) ∙ sym (xor_assoc a c (bit_xor b d))

-- sums are sorted, and what stands twice goes
pub ruleset sums = (xor_assoc, xor_zero_r, xor_self, xor_cancel, xor_comm, xor_left_comm)

pub xor_double : (a b : ℕ) → bit_xor a b * 2 ≡ bit_xor (a * 2) (b * 2)
xor_double a b =
    sym (add-zero (bit_xor a b * 2))
    ∙ sym (xor_block 1 a b 0 0 (pow_pos 1) (pow_pos 1))
    ∙ ap₂ bit_xor (add-zero (a * 2)) (add-zero (b * 2))

-- a polynomial is x times its higher part, plus its constant
pub by_digits : (a : ℕ) → bit_xor (a / 2 * 2) (a % 2) ≡ a
by_digits a = xor_shifted (a / 2) 1 (a % 2) (mod-lt a (zero-lt-suc 1)) ∙ div-add-mod' a 2

-- a constant, 0 or 1, times s
pub digit_sum : (x y s : ℕ) → x < 2 → y < 2 → bit_xor x y * s ≡ bit_xor (x * s) (y * s)
digit_sum zero y s hx hy = ap (λ (z : ℕ). bit_xor z (y * s)) (sym (zero-mul s))
digit_sum (suc zero) zero s hx hy = sym (ap (bit_xor (1 * s)) (zero-mul s) ∙ xor_zero_r (1 * s))
digit_sum (suc zero) (suc zero) s hx hy = zero-mul s ∙ sym (xor_self (1 * s))
digit_sum (suc zero) (suc (suc y)) s hx hy = absurd (omega arith)
digit_sum (suc (suc x)) y s hx hy = absurd (omega arith)

-- x · (s + t), for a constant x
pub scaled_sum : (x s t : ℕ) → x < 2 → x * bit_xor s t ≡ bit_xor (x * s) (x * t)
scaled_sum zero s t h = zero-mul (bit_xor s t) ∙ sym (ap₂ bit_xor (zero-mul s) (zero-mul t))
scaled_sum (suc zero) s t h = one-mul (bit_xor s t) ∙ sym (ap₂ bit_xor (one-mul s) (one-mul t))
scaled_sum (suc (suc x)) s t h = absurd (omega arith)

abbrev pub Additive : (ℕ → ℕ) → Type 0
Additive f = (a b : ℕ) → f (bit_xor a b) ≡ bit_xor (f a) (f b)

pub additive_zero : (f : ℕ → ℕ) → Additive f → f 0 ≡ 0
additive_zero f h = sym (xor_cancel (f 0) (f 0)) ∙ ap (bit_xor (f 0)) (sym (h 0 0)) ∙ xor_self (f 0)

-- a constant, 0 or 1, comes out of an additive map
pub additive_digit : (f : ℕ → ℕ) → Additive f → (d s : ℕ) → d < 2 → f (d * s) ≡ d * f s
additive_digit f h zero s l = ap f (zero-mul s) ∙ additive_zero f h ∙ sym (zero-mul (f s))
additive_digit f h (suc zero) s l = ap f (one-mul s) ∙ sym (one-mul (f s))
additive_digit f h (suc (suc d)) s l = absurd (omega arith)

-- Two maps that are additive in their first argument, agree at 1, and agree at x·a wherever they agree at a, agree.
module _ {S : Type 0} (f g : ℕ → S → ℕ)
    (hf : (s : S) → Additive (λ a. f a s)) (hg : (s : S) → Additive (λ a. g a s))
    (at_one : (s : S) → f 1 s ≡ g 1 s)
    (at-double : (a : ℕ) → ((s : S) → f a s ≡ g a s) → (s : S) → f (a * 2) s ≡ g (a * 2) s) where
  at_zero : (s : S) → f 0 s ≡ g 0 s
  at_zero s = additive_zero (λ a. f a s) (hf s) ∙ sym (additive_zero (λ a. g a s) (hg s))

  at_digit : (d : ℕ) (s : S) → d < 2 → f d s ≡ g d s
  at_digit zero s h = at_zero s
  at_digit (suc zero) s h = at_one s
  at_digit (suc (suc d)) s h = absurd (omega arith)

  pub agree : (a : ℕ) (s : S) → f a s ≡ g a s
  agree =
      bin_ind (λ (a : ℕ). (s : S) → f a s ≡ g a s) at_zero
      (λ a ih s. ap (λ (z : ℕ). f z s) (sym (by_digits a)) ∙ hf s (a / 2 * 2) (a % 2)
      ∙ ap₂ bit_xor (at-double (a / 2) ih s) (at_digit (a % 2) s (mod-lt a (zero-lt-suc 1)))
      ∙ sym (hg s (a / 2 * 2) (a % 2)) ∙ ap (λ (z : ℕ). g z s) (by_digits a))
