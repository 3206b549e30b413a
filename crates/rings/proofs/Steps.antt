-- The step of a ring: its cells, its bound, that it is additive, and that it is one line of word operations.
use Rattle.std.proofs.Common.{◌≡◌, ℕ, zero, suc, ◌+◌, ◌-◌, ◌*◌, ◌/◌, ◌%◌, ◌^◌, ◌<◌, ◌≤◌, sym, refl, ap, ◌∙◌, ap₂, mod-lt, zero-lt-suc, div-one, add-one, one-add, arith, shr-shr}
use native.Mathlib.Nat.{mul-mod_left}
use lib.Bits.{bit_and, bit_xor, and_mask, and_shr, and_mod, xor_shr, xor_lt, xor_add_and}
use Rattle.std.proofs.lemmas.Nat.{one_shl}
use Rattle.gf2.proofs.Sums.{scaled_sum}
use Rattle.gf2.proofs.Division.{double_shr}
use Rattle.gf2.proofs.Words.{shift_word}
use Rattle.rings.specs.Vectors.{rule}
use Rattle.rings.specs.Cells.{cell, ring_next}
use Rattle.rings.proofs.Cells.{cell_outside, cell_digit, cell_sum, cells_same, word_digits, word_below, cell_word}

module _ (n v : ℕ) where
  bits : (s k : ℕ) → (cell n s (k - 1) + rule v (k - 1) * cell n s k + cell n s (k + 1)) % 2 < 2
  bits s k = mod-lt (cell n s (k - 1) + rule v (k - 1) * cell n s k + cell n s (k + 1)) (zero-lt-suc 1)

  pub ring_below : (s : ℕ) → ring_next n v s < 2 ^ n
  unfolding ring_next
  ring_below s = word_below _ (bits s) n

  pub ring_cell : (s k : ℕ) → k < n → cell n (ring_next n v s) (suc k) ≡ (cell n s k + rule v k * cell n s (suc k) + cell n s (suc (suc k))) % 2
  unfolding ring_next
  ring_cell s k h =
      let before : suc k - 1 ≡ k = omega arith in
      cell_word _ (bits s) n k h
      ∙ ap₂ (λ (x y : ℕ). (cell n s x + rule v x * cell n s (suc k) + cell n s y) % 2) before (add-one (suc k))

  pub ring_sum : (s t : ℕ) → ring_next n v (bit_xor s t) ≡ bit_xor (ring_next n v s) (ring_next n v t)
  ring_sum s t =
      cells_same n (ring_next n v (bit_xor s t)) (bit_xor (ring_next n v s) (ring_next n v t)) (ring_below (bit_xor s t))
      (xor_lt n (ring_next n v s) (ring_next n v t) (ring_below s) (ring_below t))
      (λ k h. ring_cell (bit_xor s t) k h
      ∙ ap₂ (λ (x y : ℕ). (x + rule v k * y + cell n (bit_xor s t) (suc (suc k))) % 2) (cell_sum n s t k) (cell_sum n s t (suc k))
      ∙ ap (λ (z : ℕ). (bit_xor (cell n s k) (cell n t k) + rule v k * bit_xor (cell n s (suc k)) (cell n t (suc k)) + z) % 2) (cell_sum n s t (suc (suc k)))
      ∙ sums_apart (rule v k) (cell n s k) (cell n t k) (cell n s (suc k)) (cell n t (suc k)) (cell n s (suc (suc k))) (cell n t (suc (suc k))) (mod-lt (v / 2 ^ k) (zero-lt-suc 1))
      ∙ sym (cell_sum n (ring_next n v s) (ring_next n v t) (suc k) ∙ ap₂ bit_xor (ring_cell s k h) (ring_cell t k h)))
    where
      sums_apart : (c a a' b b' d d' : ℕ) → c < 2 →
          (bit_xor a a' + c * bit_xor b b' + bit_xor d d') % 2 ≡ bit_xor ((a + c * b + d) % 2) ((a' + c * b' + d') % 2)
      sums_apart c a a' b b' d d' h =
          let x = (a + c * b + d) % 2 in
          let y = (a' + c * b' + d') % 2 in
          let bit = xor_lt 1 x y (mod-lt (a + c * b + d) (zero-lt-suc 1)) (mod-lt (a' + c * b' + d') (zero-lt-suc 1)) in
          ap (λ (z : ℕ). (bit_xor a a' + z + bit_xor d d') % 2) (scaled_sum c b b' h)
          ∙ omega (arith, xor_add_and a a', xor_add_and (c * b) (c * b'), xor_add_and d d', xor_add_and x y, bit)

-- ---- the same by word operations

pub and_bits : (x y : ℕ) → x < 2 → y < 2 → bit_and x y ≡ y * x
and_bits zero zero hx hy = refl
and_bits zero (suc zero) hx hy = refl
and_bits (suc zero) zero hx hy = refl
and_bits (suc zero) (suc zero) hx hy = refl
and_bits zero (suc (suc y)) hx hy = absurd (omega arith)
and_bits (suc zero) (suc (suc y)) hx hy = absurd (omega arith)
and_bits (suc (suc x)) y hx hy = absurd (omega arith)

module _ (n v s : ℕ) (few : n ≤ 31) (h : s < 2 ^ n) where
  left : (k : ℕ) → s * 2 / 2 ^ k % 2 ≡ cell n s k
  left zero = ap (λ (z : ℕ). z % 2) (div-one (s * 2)) ∙ mul-mod_left s 2 ∙ sym (cell_outside n s)
  left (suc k) = ap (λ (z : ℕ). z % 2) (double_shr s k) ∙ sym (cell_digit n s k h)

  own : (k : ℕ) → bit_and (s / 2 ^ k) (v / 2 ^ k) % 2 ≡ rule v k * cell n s (suc k)
  own k =
      and_mod (s / 2 ^ k) (v / 2 ^ k) 1
      ∙ and_bits (s / 2 ^ k % 2) (rule v k) (mod-lt (s / 2 ^ k) (zero-lt-suc 1)) (mod-lt (v / 2 ^ k) (zero-lt-suc 1))
      ∙ ap (λ (z : ℕ). rule v k * z) (sym (cell_digit n s k h))

  right : (k : ℕ) → s / 2 / 2 ^ k % 2 ≡ cell n s (suc (suc k))
  right k = ap (λ (z : ℕ). z % 2) (shr-shr s 1 k ∙ ap (λ (z : ℕ). s / 2 ^ z) (one-add k)) ∙ sym (cell_digit n s (suc k) h)

  pub ring_word : bit_and (bit_xor (bit_xor (s * 2 % 2 ^ 32) (bit_and s v)) (s / 2)) (1 * 2 ^ n % 2 ^ 32 - 1) ≡ ring_next n v s
  unfolding ring_next
  ring_word =
      ap₂ (λ (x y : ℕ). bit_and (bit_xor (bit_xor x (bit_and s v)) (s / 2)) (y - 1)) (shift_word 32 s n h (omega arith)) (one_shl n 32 (omega arith))
      ∙ and_mask _ n ∙ sym (word_digits n (bit_xor (bit_xor (s * 2) (bit_and s v)) (s / 2)) _ digit)
    where
      digit : (k : ℕ) → k < n →
          (cell n s (suc k - 1) + rule v (suc k - 1) * cell n s (suc k) + cell n s (suc k + 1)) % 2
          ≡ bit_xor (bit_xor (s * 2) (bit_and s v)) (s / 2) / 2 ^ k % 2
      digit k l =
          let before : suc k - 1 ≡ k = omega arith in
          let a = s * 2 / 2 ^ k in
          let b = bit_and (s / 2 ^ k) (v / 2 ^ k) in
          let d = s / 2 / 2 ^ k in
          let apart : bit_xor (bit_xor (s * 2) (bit_and s v)) (s / 2) / 2 ^ k ≡ bit_xor (bit_xor a b) d =
          xor_shr (bit_xor (s * 2) (bit_and s v)) (s / 2) k
          ∙ ap (λ (z : ℕ). bit_xor z d) (xor_shr (s * 2) (bit_and s v) k ∙ ap (bit_xor a) (and_shr s v k)) in
          let parity : (a + b + d) % 2 ≡ bit_xor (bit_xor a b) d % 2 = omega (arith, xor_add_and a b, xor_add_and (bit_xor a b) d) in
          ap₂ (λ (x y : ℕ). (cell n s x + rule v x * cell n s (suc k) + cell n s y) % 2) before (add-one (suc k))
          ∙ omega (arith, left k, own k, right k, parity) ∙ ap (λ (z : ℕ). z % 2) (sym apart)
