-- The word of taps is the polynomial with its digits reversed, and the parity of the tapped cells is the feedback.
use Rattle.std.specs.Prelude.{◌≡◌, ℕ, zero, suc, ◌+◌, ◌-◌, ◌*◌, ◌/◌, ◌%◌, ◌^◌, ◌<◌, ◌≤◌, bit_and, refl}
use Rattle.std.proofs.Common.{sym, ◌∙◌, mod-lt, mod-eq_of_lt, zero-lt-suc, div-one, mul_assoc, pow-suc, one-add, pow_pos}
use Rattle.std.proofs.Math.Path.{ap, ap₂}
use Rattle.std.proofs.Math.Nat.{mod-one}
use native.Mathlib.Omega.{arith}
use Rattle.std.proofs.Math.Arith.{digits_div}
use Rattle.std.proofs.lemmas.Nat.{mod-pow-add, and_le_l, and_shr, ones_cat}
use Rattle.std.specs.Int.Bits.{and_mod}
use Rattle.std.specs.Int.Count.{ones, ones_in}
use Rattle.std.specs.Int.{reverse_bits_onto}
use Rattle.gf2.proofs.Division.{half_shr}
use Rattle.rings.specs.Cells.{cell, word}
use Rattle.rings.proofs.Cells.{cell_digit, cell_word, word_below}
use Rattle.rings.proofs.Steps.{and_bits}
use Rattle.generators.specs.Registers.{coefficient, total, feedback, taps}

-- ---- digits in the other order

reversed_last : (k p a : ℕ) → reverse_bits_onto (suc k) p a ≡ reverse_bits_onto k p a * 2 + coefficient p k
unfolding reverse_bits_onto
reversed_last zero p a = ap (λ (z : ℕ). a * 2 + z % 2) (sym (div-one p))
reversed_last (suc k) p a = reversed_last k (p / 2) (a * 2 + p % 2) ∙ ap (λ (z : ℕ). reverse_bits_onto k (p / 2) (a * 2 + p % 2) * 2 + z % 2) (half_shr p k)

reversed_short : (n j p : ℕ) → reverse_bits_onto (n + j) p 0 / 2 ^ j ≡ reverse_bits_onto n p 0
reversed_short n zero p = let same : n + 0 ≡ n = omega arith in div-one (reverse_bits_onto (n + 0) p 0) ∙ ap (λ (z : ℕ). reverse_bits_onto z p 0) same
reversed_short n (suc j) p =
    let whole : n + suc j ≡ suc (n + j) = omega arith in
    ap (λ (z : ℕ). reverse_bits_onto z p 0 / 2 ^ suc j) whole ∙ sym (half_shr (reverse_bits_onto (suc (n + j)) p 0) j)
    ∙ ap (λ (z : ℕ). z / 2 ^ j) (ap (λ (z : ℕ). z / 2) (reversed_last (n + j) p 0) ∙ digits_div (reverse_bits_onto (n + j) p 0) (mod-lt (p / 2 ^ (n + j)) (zero-lt-suc 1)))
    ∙ reversed_short n j p

word_same : (n : ℕ) (f g : ℕ → ℕ) → ((k : ℕ) → f k ≡ g k) → word n f ≡ word n g
unfolding word
word_same zero f g h = refl
word_same (suc n) f g h = ap₂ (λ (x y : ℕ). x * 2 ^ n + y) (h (suc n)) (word_same n f g h)

word_first : (n : ℕ) (f : ℕ → ℕ) → word (suc n) f ≡ word n (λ k. f (suc k)) * 2 + f 1
unfolding word
word_first zero f = omega arith
word_first (suc n) f =
    let up = pow-suc 2 n in
    ap (λ (z : ℕ). f (suc (suc n)) * 2 ^ suc n + z) (word_first n f)
    ∙ ap (λ (z : ℕ). f (suc (suc n)) * z + (word n (λ k. f (suc k)) * 2 + f 1)) up
    ∙ twice (f (suc (suc n))) (2 ^ n) (word n (λ k. f (suc k))) (f 1)
  where
    twice : (a b w c : ℕ) → a * (b * 2) + (w * 2 + c) ≡ (a * b + w) * 2 + c
    twice a b w c = let e : a * (b * 2) ≡ a * b * 2 = sym (mul_assoc a b 2) in omega arith

taps_reversed : (n p : ℕ) → reverse_bits_onto n p 0 ≡ taps p n
unfolding taps word reverse_bits_onto
taps_reversed zero p = refl
taps_reversed (suc n) p =
    let top : suc n - 1 ≡ n = omega arith in
    reversed_last n p 0 ∙ ap₂ (λ (x y : ℕ). x * 2 + coefficient p y) (taps_reversed n p) (sym top)
    ∙ ap (λ (z : ℕ). z * 2 + coefficient p (suc n - 1))
    (word_same n (λ i. coefficient p (n - i)) (λ i. coefficient p (suc n - suc i)) (λ i. let same : n - i ≡ suc n - suc i = omega arith in ap (coefficient p) same))
    ∙ sym (word_first n (λ i. coefficient p (suc n - i)))

pub taps_word : (n p : ℕ) → n ≤ 32 → reverse_bits_onto 32 p 0 / 2 ^ (32 - n) ≡ taps p n
taps_word n p h =
    let whole : 32 ≡ n + (32 - n) = omega arith in
    ap (λ (z : ℕ). reverse_bits_onto z p 0 / 2 ^ (32 - n)) whole ∙ reversed_short n (32 - n) p ∙ taps_reversed n p

-- ---- the feedback

pub total_same : (m : ℕ) (f g : ℕ → ℕ) → ((k : ℕ) → k < m → f (suc k) ≡ g (suc k)) → total m f ≡ total m g
unfolding total
total_same zero f g h = refl
total_same (suc m) f g h = ap₂ ◌+◌ (total_same m f g (λ k l. h k (omega arith))) (h m (omega arith))

ones_bit : (b : ℕ) → b < 2 → ones b ≡ b
unfolding ones ones_in
ones_bit zero h = refl
ones_bit (suc zero) h = refl
ones_bit (suc (suc b)) h = absurd (omega arith)

ones_total : (m a : ℕ) → ones (a % 2 ^ m) ≡ total m (λ i. coefficient a (i - 1))
unfolding total ones
ones_total zero a = ap ones (mod-one a)
ones_total (suc m) a =
    let top : suc m - 1 ≡ m = omega arith in
    ap (λ (z : ℕ). ones (a % 2 ^ z)) (sym (one-add m)) ∙ ap ones (mod-pow-add a 1 m)
    ∙ ones_cat m (coefficient a m) (a % 2 ^ m) (mod-lt a (pow_pos m))
    ∙ ap₂ ◌+◌ (ones_bit (coefficient a m) (mod-lt (a / 2 ^ m) (zero-lt-suc 1))) (ones_total m a)
    ∙ omega (arith, ap (coefficient a) top)

module _ (p n s : ℕ) (h : s < 2 ^ n) where
  bits : (i : ℕ) → coefficient p (n - i) < 2
  bits i = mod-lt (p / 2 ^ (n - i)) (zero-lt-suc 1)

  tapped : (k : ℕ) → k < n → coefficient (bit_and s (taps p n)) (suc k - 1) ≡ coefficient p (n - suc k) * cell n s (suc k)
  unfolding taps
  tapped k l =
      let before : suc k - 1 ≡ k = omega arith in
      ap (coefficient (bit_and s (taps p n))) before ∙ ap (λ (z : ℕ). z % 2) (and_shr s (taps p n) k)
      ∙ and_mod (s / 2 ^ k) (taps p n / 2 ^ k) 1
      ∙ and_bits (s / 2 ^ k % 2) (taps p n / 2 ^ k % 2) (mod-lt (s / 2 ^ k) (zero-lt-suc 1)) (mod-lt (taps p n / 2 ^ k) (zero-lt-suc 1))
      ∙ ap₂ ◌*◌
      (sym (cell_digit n (taps p n) k (word_below (λ i. coefficient p (n - i)) bits n)) ∙ cell_word (λ i. coefficient p (n - i)) bits n k l)
      (sym (cell_digit n s k h))

  pub feedback_ones : ones (bit_and s (taps p n)) ≡ feedback p n s
  feedback_ones =
      ap ones (sym (mod-eq_of_lt small)) ∙ ones_total n (bit_and s (taps p n))
      ∙ total_same n (λ i. coefficient (bit_and s (taps p n)) (i - 1)) (λ i. coefficient p (n - i) * cell n s i) tapped
    where
      small : bit_and s (taps p n) < 2 ^ n
      small = let low = and_le_l s (taps p n) in omega arith
