-- Cells of a state: they add up, a state is known by them, and a word has the cells that it is made of.
use Rattle.std.proofs.Common.{◌≡◌, ℕ, zero, suc, ◌+◌, ◌-◌, ◌*◌, ◌/◌, ◌%◌, ◌^◌, ◌<◌, sym, refl, ap, ◌∙◌, subst, ap₂, ⊎_elim, mod-lt, mod-eq_of_lt, zero-lt-suc, add-one, one-add, arith, pow_pos}
use native.Mathlib.Nat.{mod-one, div-eq_of_lt}
use lib.Arith.{digits_lt}
use lib.Pow.{field, mod-mod-pow, mod-pow-add, high, low}
use lib.Bits.{bit_xor, xor_shr, xor_mod}
use Rattle.gf2.proofs.Orders.{order}
use Rattle.rings.specs.Cells.{cell, word}

-- ---- one cell

pub cell_outside : (n s : ℕ) → cell n s 0 ≡ 0
unfolding cell
cell_outside n s = refl

pub cell_past : (n s : ℕ) → cell n s (suc n) ≡ 0
unfolding cell
cell_past n s = ap (λ (z : ℕ). z % 2) (div-eq_of_lt (mod-lt s (pow_pos n)))

pub cell_below : (n s k : ℕ) → cell n s k < 2
unfolding cell
cell_below n s zero = zero-lt-suc 1
cell_below n s (suc k) = mod-lt (s % 2 ^ n / 2 ^ k) (zero-lt-suc 1)

-- of a number that is a state, a cell is a digit
pub cell_digit : (n s k : ℕ) → s < 2 ^ n → cell n s (suc k) ≡ s / 2 ^ k % 2
unfolding cell
cell_digit n s k h = ap (λ (z : ℕ). z / 2 ^ k % 2) (mod-eq_of_lt h)

pub cell_sum : (n s t k : ℕ) → cell n (bit_xor s t) k ≡ bit_xor (cell n s k) (cell n t k)
unfolding cell
cell_sum n s t zero = refl
cell_sum n s t (suc k) =
    ap (λ (z : ℕ). z / 2 ^ k % 2) (xor_mod s t n) ∙ ap (λ (z : ℕ). z % 2) (xor_shr (s % 2 ^ n) (t % 2 ^ n) k)
    ∙ xor_mod (s % 2 ^ n / 2 ^ k) (t % 2 ^ n / 2 ^ k) 1

-- ---- all cells

pub digit_low : (a n k : ℕ) → k < n → a % 2 ^ n / 2 ^ k % 2 ≡ a / 2 ^ k % 2
digit_low a n k h =
    let split : n ≡ ((n - suc k) + 1) + k = omega arith in
    ap (λ (z : ℕ). a % 2 ^ z / 2 ^ k % 2) split ∙ ap (λ (z : ℕ). z % 2) (field a ((n - suc k) + 1) k)
    ∙ mod-mod-pow (a / 2 ^ k) (n - suc k) 1

-- the word of the digits of a number
pub word_digits : (n a : ℕ) (f : ℕ → ℕ) → ((k : ℕ) → k < n → f (suc k) ≡ a / 2 ^ k % 2) → word n f ≡ a % 2 ^ n
unfolding word
word_digits zero a f h = sym (mod-one a)
word_digits (suc n) a f h =
    ap₂ (λ (x y : ℕ). x * 2 ^ n + y) (h n (omega arith)) (word_digits n a f (λ k l. h k (omega arith)))
    ∙ sym (mod-pow-add a 1 n) ∙ ap (λ (z : ℕ). a % 2 ^ z) (one-add n)

pub cells_same : (n a b : ℕ) → a < 2 ^ n → b < 2 ^ n → ((k : ℕ) → k < n → cell n a (suc k) ≡ cell n b (suc k)) → a ≡ b
cells_same n a b ha hb h =
    sym (mod-eq_of_lt ha) ∙ sym (word_digits n a (cell n b) (λ k l. sym (h k l) ∙ cell_digit n a k ha))
    ∙ word_digits n b (cell n b) (λ k l. cell_digit n b k hb) ∙ mod-eq_of_lt hb

module _ (f : ℕ → ℕ) (bits : (k : ℕ) → f k < 2) where
  pub word_below : (n : ℕ) → word n f < 2 ^ n
  unfolding word
  word_below zero = zero-lt-suc 0
  word_below (suc n) =
      subst (λ (z : ℕ). f (suc n) * 2 ^ n + word n f < z) (omega (arith, add-one n)) (digits_lt {m = 2} (bits (suc n)) (word_below n))

  digit_word : (n k : ℕ) → k < n → word n f / 2 ^ k % 2 ≡ f (suc k)
  unfolding word
  digit_word zero k h = absurd (omega arith)
  digit_word (suc n) k h =
      ⊎_elim
      (λ below.
      sym (digit_low (f (suc n) * 2 ^ n + word n f) n k below)
      ∙ ap (λ (z : ℕ). z / 2 ^ k % 2) (low (f (suc n)) n (word_below n)) ∙ digit_word n k below)
      (λ from.
      let last : k ≡ n = omega arith in
      ap (λ (z : ℕ). (f (suc n) * 2 ^ n + word n f) / 2 ^ z % 2) last
      ∙ ap (λ (z : ℕ). z % 2) (high (f (suc n)) n (word_below n)) ∙ mod-eq_of_lt (bits (suc n)) ∙ ap (λ (z : ℕ). f (suc z)) (sym last))
      (order k n)

  pub cell_word : (n k : ℕ) → k < n → cell n (word n f) (suc k) ≡ f (suc k)
  cell_word n k h = cell_digit n (word n f) k (word_below n) ∙ digit_word n k h
