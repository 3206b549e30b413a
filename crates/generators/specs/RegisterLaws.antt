-- The polynomial of a register annihilates its step. Its digits from the highest down, acting in turn, bring the cells to
-- cell n one by one, so that cell n of p acting on any state is the feedback taken twice; and as cells only move up, every
-- cell of it is 0.
use Rattle.std.specs.Prelude.{◌≡◌, ℕ, zero, suc, ◌+◌, ◌-◌, ◌*◌, ◌/◌, ◌%◌, ◌^◌, ◌<◌, ◌≤◌, bit_and, bit_or, bit_xor, count_ones, refl}
use Rattle.std.proofs.Math.Path.{sym, ap, ap₂}
use Rattle.std.proofs.Common.{◌∙◌, div-one, pow_pos, shr-shr}
use Rattle.std.proofs.Math.Nat.{mod-lt, zero-lt-suc}
use native.Mathlib.Omega.{arith}
use Rattle.std.proofs.Math.Arith.{digits_div, digits_mod}
use Rattle.std.specs.Int.Bits.{and_mask, xor_lt, xor_add_and}
use Rattle.std.proofs.lemmas.Nat.{one_shl, or_shifted}
use Rattle.gf2.specs.Algebra.{act, Degree}
use Rattle.gf2.proofs.Sums.{Additive, additive_digit, scaled_sum}
use Rattle.gf2.proofs.Action.{act_step, act_one, act_commutes}
use Rattle.gf2.proofs.Division.{half_shr, digit_below}
use Rattle.gf2.proofs.Composition.{act_below}
use Rattle.gf2.proofs.Words.{shift_word}
use Rattle.rings.specs.Cells.{cell}
use Rattle.rings.proofs.Cells.{cell_below, cell_digit, cell_sum, cells_same, word_digits, word_below, cell_word}
use Rattle.generators.specs.Generators.{Lawful, plain}
use Rattle.generators.specs.Registers.{coefficient, total, feedback, register_cell, register_next, taps}
use Rattle.generators.specs.Cells.{cell_of_zero, all_shown}
use Rattle.generators.specs.Taps.{total_same, feedback_ones}

coefficient_below : (p i : ℕ) → coefficient p i < 2
coefficient_below p i = mod-lt (p / 2 ^ i) (zero-lt-suc 1)

-- sums with a constant, 0 or 1, before each term, are additive modulo 2
total_sum : (m : ℕ) (c a b : ℕ → ℕ) → ((i : ℕ) → c i < 2) →
    total m (λ i. c i * bit_xor (a i) (b i)) % 2 ≡ (total m (λ i. c i * a i) + total m (λ i. c i * b i)) % 2
unfolding total
total_sum zero c a b h = refl
total_sum (suc m) c a b h =
    let k = suc m in
    let before = total_sum m c a b h in
    ap (λ (z : ℕ). (total m (λ i. c i * bit_xor (a i) (b i)) + z) % 2) (scaled_sum (c k) (a k) (b k) (h k))
    ∙ omega (arith, before, xor_add_and (c k * a k) (c k * b k))

module _ (p n : ℕ) where
  abbrev N : ℕ → ℕ
  N = register_next p n

  bits : (s k : ℕ) → register_cell p n s k < 2
  unfolding register_cell
  bits s zero = zero-lt-suc 1
  bits s (suc zero) = mod-lt (feedback p n s) (zero-lt-suc 1)
  bits s (suc (suc k)) = cell_below n s (suc k)

  register_below : (s : ℕ) → N s < 2 ^ n
  unfolding register_next
  register_below s = word_below (register_cell p n s) (bits s) n

  at_cell : (s k : ℕ) → k < n → cell n (N s) (suc k) ≡ register_cell p n s (suc k)
  unfolding register_next
  at_cell s k h = cell_word (register_cell p n s) (bits s) n k h

  at_first : (s : ℕ) → 0 < n → cell n (N s) 1 ≡ feedback p n s % 2
  unfolding register_cell
  at_first s h = at_cell s 0 h

  at_next : (s k : ℕ) → suc k < n → cell n (N s) (suc (suc k)) ≡ cell n s (suc k)
  unfolding register_cell
  at_next s k h = at_cell s (suc k) h

  register_sum : Additive N
  unfolding register_cell
  register_sum s t =
      cells_same n (N (bit_xor s t)) (bit_xor (N s) (N t)) (register_below (bit_xor s t)) (xor_lt n (N s) (N t) (register_below s) (register_below t))
      (λ k h. at_cell (bit_xor s t) k h ∙ sums k ∙ sym (cell_sum n (N s) (N t) (suc k) ∙ ap₂ bit_xor (at_cell s k h) (at_cell t k h)))
    where
      sums : (k : ℕ) → register_cell p n (bit_xor s t) (suc k) ≡ bit_xor (register_cell p n s (suc k)) (register_cell p n t (suc k))
      sums zero =
          let x = feedback p n s % 2 in
          let y = feedback p n t % 2 in
          let bit = xor_lt 1 x y (mod-lt (feedback p n s) (zero-lt-suc 1)) (mod-lt (feedback p n t) (zero-lt-suc 1)) in
          ap (λ (z : ℕ). z % 2)
          (total_same n (λ i. coefficient p (n - i) * cell n (bit_xor s t) i) (λ i. coefficient p (n - i) * bit_xor (cell n s i) (cell n t i))
          (λ i l. ap (λ (z : ℕ). coefficient p (n - suc i) * z) (cell_sum n s t (suc i))))
          ∙ total_sum n (λ i. coefficient p (n - i)) (cell n s) (cell n t) (λ i. coefficient_below p (n - i))
          ∙ omega (arith, xor_add_and x y, bit)
      sums (suc k) = cell_sum n s t (suc k)

  -- ---- Horner's rule: one coefficient more of p

  abbrev upper : ℕ → ℕ
  upper m = p / 2 ^ (n - m)

  horner : (m s k : ℕ) → m < n →
      cell n (act N (upper (suc m)) s) k ≡ bit_xor (coefficient p (n - suc m) * cell n s k) (cell n (N (act N (upper m) s)) k)
  horner m s k h =
      let down : suc (n - suc m) ≡ n - m = omega arith in
      ap (λ (z : ℕ). cell n z k)
      (act_step N (upper (suc m)) s
      ∙ ap (bit_xor (coefficient p (n - suc m) * s))
      (ap (λ (z : ℕ). act N z (N s)) (shr-shr p (n - suc m) 1 ∙ ap (λ (z : ℕ). p / 2 ^ z) (omega (arith, down)))
      ∙ act_commutes N register_sum (upper m) s))
      ∙ cell_sum n (coefficient p (n - suc m) * s) (N (act N (upper m) s)) k
      ∙ ap (λ (z : ℕ). bit_xor z (cell n (N (act N (upper m) s)) k)) (additive_digit (λ t. cell n t k) (λ t u. cell_sum n t u k) (coefficient p (n - suc m)) s (coefficient_below p (n - suc m)))

  abbrev term : ℕ → ℕ → ℕ
  term s i = coefficient p (n - i) * cell n s i

  term_below : (s i : ℕ) → term s i < 2
  term_below s i = digit_below (coefficient p (n - i)) (cell n s i) 1 (coefficient_below p (n - i)) (cell_below n s i)

  parity : (x y a t : ℕ) → x < 2 → y < 2 → y ≡ (a + t) % 2 → bit_xor x y ≡ (a + (t + x)) % 2
  parity x y a t hx hy e = let bit = xor_lt 1 x y hx hy in omega (arith, xor_add_and x y)

  module _ (leading : Degree p n) where
    -- cell m + 1 of the upper part of p acting on s
    climbed : (m s : ℕ) → m < n → cell n (act N (upper (suc m)) s) (suc m) ≡ (cell n (N s) 1 + total (suc m) (term s)) % 2
    unfolding total
    climbed zero s h =
        let all : n - 0 ≡ n = omega arith in
        horner 0 s 1 h
        ∙ ap (λ (z : ℕ). bit_xor (term s 1) (cell n (N z) 1)) (ap (λ (z : ℕ). act N (p / 2 ^ z) s) all ∙ ap (λ (z : ℕ). act N z s) leading ∙ act_one N s)
        ∙ parity (term s 1) (cell n (N s) 1) (cell n (N s) 1) 0 (term_below s 1) (cell_below n (N s) 1) (omega (arith, cell_below n (N s) 1))
    climbed (suc m) s h =
        let y = act N (upper (suc m)) s in
        horner (suc m) s (suc (suc m)) h
        ∙ ap (bit_xor (term s (suc (suc m)))) (at_next y m h)
        ∙ parity (term s (suc (suc m))) (cell n y (suc m)) (cell n (N s) 1) (total (suc m) (term s)) (term_below s (suc (suc m))) (cell_below n y (suc m)) (climbed m s (omega arith))

    -- the whole of p brings the feedback to cell n a second time
    top_zero : (s : ℕ) → 0 < n → cell n (act N p s) n ≡ 0
    top_zero s h =
        let last : suc (n - 1) ≡ n = omega arith in
        let none : n - suc (n - 1) ≡ 0 = omega arith in
        let first = at_first s h in
        ap (λ (z : ℕ). cell n (act N z s) n) (sym (div-one p) ∙ ap (λ (z : ℕ). p / 2 ^ z) (sym none))
        ∙ ap (cell n (act N (upper (suc (n - 1))) s)) (sym last) ∙ climbed (n - 1) s (omega arith)
        ∙ ap (λ (z : ℕ). (cell n (N s) 1 + total z (term s)) % 2) last ∙ omega (arith, first)

    -- j cells below the last
    cells_zero : (j k s : ℕ) → suc k + j ≡ n → cell n (act N p s) (suc k) ≡ 0
    cells_zero zero k s e = let last : suc k ≡ n = omega arith in ap (cell n (act N p s)) last ∙ top_zero s (omega arith)
    cells_zero (suc j) k s e =
        sym (at_next (act N p s) k (omega arith)) ∙ ap (λ (z : ℕ). cell n z (suc (suc k))) (sym (act_commutes N register_sum p s))
        ∙ cells_zero j (suc k) (N s) (omega arith)

    pub register_lawful : 1 ≤ n → n ≤ 31 → Lawful (plain p n (register_next p n))
    register_lawful low high =
        record {
          leading = leading;
          some = low;
          few = high;
          next = record { below = λ s h. register_below s; sum = λ s t h l. register_sum s t };
          shown = all_shown n;
          annihilated = λ s h.
              cells_same n (act N p s) 0 (act_below n N (λ t l. register_below t) p s h) (pow_pos n)
              (λ k l. cells_zero (n - suc k) k s (omega arith) ∙ sym (cell_of_zero n (suc k)));
        }

-- ---- the same by word operations

module _ (p n s : ℕ) (few : n ≤ 31) (h : s < 2 ^ n) where
  pub register_word : bit_and (bit_or (s * 2 % 2 ^ 32) (bit_and (count_ones (bit_and s (taps p n))) 1)) (1 * 2 ^ n % 2 ^ 32 - 1) ≡ register_next p n s
  unfolding register_next register_cell
  register_word =
      ap₂ (λ (x y : ℕ). bit_and (bit_or (s * 2 % 2 ^ 32) x) (y - 1)) (and_mask (count_ones (bit_and s (taps p n))) 1 ∙ ap (λ (z : ℕ). z % 2) (feedback_ones p n s h)) (one_shl n 32 (omega arith))
      ∙ ap (λ (z : ℕ). bit_and (bit_or z b) (2 ^ n - 1)) (shift_word 32 s n h (omega arith))
      ∙ ap (λ (z : ℕ). bit_and z (2 ^ n - 1)) (or_shifted s 1 b bit) ∙ and_mask (s * 2 + b) n
      ∙ sym (word_digits n (s * 2 + b) (register_cell p n s) digit)
    where
      b : ℕ
      b = feedback p n s % 2

      bit : b < 2
      bit = mod-lt (feedback p n s) (zero-lt-suc 1)

      digit : (k : ℕ) → k < n → register_cell p n s (suc k) ≡ (s * 2 + b) / 2 ^ k % 2
      digit zero l = sym (ap (λ (z : ℕ). z % 2) (div-one (s * 2 + b)) ∙ digits_mod s bit)
      digit (suc k) l =
          cell_digit n s k h
          ∙ ap (λ (z : ℕ). z % 2) (ap (λ (z : ℕ). z / 2 ^ k) (sym (digits_div s bit)) ∙ half_shr (s * 2 + b) k)
