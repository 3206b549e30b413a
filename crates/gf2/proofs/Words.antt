-- Polynomials in machine words: shifts that lose nothing, and one digit more of a factor, of a dividend or of an exponent.
use Rattle.std.proofs.Common.{◌≡◌, ℕ, zero, suc, ◌+◌, ◌-◌, ◌*◌, ◌/◌, ◌%◌, ◌^◌, ◌<◌, ◌≤◌, sym, refl, ap, ◌∙◌, subst, ap₂, ⊎_elim, lt_of_lt_of_le, add-zero, mod-lt, mod-eq_of_lt, zero-lt-suc, div-lt_iff_lt-mul, eq-zero-or-pos, suc-add, one-mul, pow-suc, div-add-mod', zero-add, zero-mul, div-one, add-one, arith, pow_pos, pow_mono, shl_lt, shr-shr}
use native.Mathlib.Nat.{div-eq_of_lt-le, div-eq_of_lt}
use lib.Pow.{shr_le}
use lib.Bits.{bit_and, bit_xor, and_mask, and_zero_r, and_block, xor_zero_r, xor_shifted}
use Rattle.gf2.proofs.Orders.{order}
use lib.Count.{count_leading_zeros, leading_top, leading_length}
use Rattle.gf2.specs.Algebra.{product, derivative, power_of_x, times_x, Degree, Leaves}
use Rattle.gf2.proofs.Sums.{by_digits, xor_double, sums}
use Rattle.gf2.proofs.Ring.{mul_sum_l, mul_x_l, mul_one_l}
use Rattle.gf2.proofs.Derivation.{derivative_zero, derivative_step}
use Rattle.gf2.proofs.Division.{degree_above, mul_below, mul_digit, leaves_x_short, leaves_x_long, leaves_below}

pub degree_word : (a : ℕ) → (a ≡ 0 → ⊥) → a < 2 ^ 32 → Degree a (31 - count_leading_zeros 32 a)
degree_word a h w =
    let top = leading_top 32 a (omega arith) w in
    let is : 31 - count_leading_zeros 32 a ≡ top.0 = omega (arith, top.1) in
    ap (λ (n : ℕ). a / 2 ^ n) is
    ∙ div-eq_of_lt-le (2 ^ top.0) (subst (λ (z : ℕ). z ≤ a) (sym (one-mul (2 ^ top.0))) top.2)
    (subst (λ (z : ℕ). a < z) (pow-suc 2 top.0 ∙ omega arith) top.3)

-- a polynomial of a word has a degree of at most 31
pub degree_at_most : (p n : ℕ) → Degree p n → p < 2 ^ 32 → n ≤ 31
degree_at_most p n h w =
    let low = degree_above p n h in
    let high : 31 < n → ⊥ = λ k. let up = pow_mono {i = 32} {j = n} k in omega arith in
    omega (arith, high)

pub degree_two : (p n : ℕ) → Degree p n → 1 ≤ n → 2 ≤ p
degree_two p n h k = let low = degree_above p n h in let up = pow_mono {i = 1} {j = n} k in omega arith

-- a shift that loses nothing
pub shift_word : (w r n : ℕ) → r < 2 ^ n → n + 1 ≤ w → r * 2 % 2 ^ w ≡ r * 2
shift_word w r n h k = mod-eq_of_lt (lt_of_lt_of_le (shl_lt n 1 h) (pow_mono k))

-- ---- powers of x

pub power_suc : (k : ℕ) → power_of_x (suc k) ≡ times_x (power_of_x k)
unfolding power_of_x
power_suc k = pow-suc 2 k

pub power_zero : power_of_x 0 ≡ 1
unfolding power_of_x
power_zero = refl

pub power_one : power_of_x 1 ≡ 2
unfolding power_of_x
power_one = refl

pub power_sum : (j k : ℕ) → product (power_of_x j) (power_of_x k) ≡ power_of_x (j + k)
power_sum zero k = ap (λ (z : ℕ). product z (power_of_x k)) power_zero ∙ mul_one_l (power_of_x k) ∙ ap power_of_x (sym (zero-add k))
power_sum (suc j) k =
    ap (λ (z : ℕ). product z (power_of_x k)) (power_suc j) ∙ mul_x_l (power_of_x j) (power_of_x k)
    ∙ ap times_x (power_sum j k) ∙ sym (power_suc (j + k)) ∙ ap power_of_x (sym (suc-add j k))

-- x^(2^(d+1)) is the square of x^(2^d)
pub power_square : (d : ℕ) → power_of_x (2 ^ (d + 1)) ≡ product (power_of_x (2 ^ d)) (power_of_x (2 ^ d))
power_square d =
    ap power_of_x (ap (λ (n : ℕ). 2 ^ n) (add-one d) ∙ pow-suc 2 d ∙ mul_two (2 ^ d)) ∙ sym (power_sum (2 ^ d) (2 ^ d))
  where
    mul_two : (a : ℕ) → a * 2 ≡ a + a
    mul_two a = omega arith

-- ---- loops from the highest digit down: the digits from i on, then one more

-- a number has no digit past its length
pub past_length : (w a : ℕ) → a < 2 ^ w → a / 2 ^ (w - count_leading_zeros w a) ≡ 0
past_length w a h =
    let top = leading_length w a h in
    let is : w - count_leading_zeros w a ≡ top.0 = omega (arith, top.1) in
    ap (λ (n : ℕ). a / 2 ^ n) is ∙ div-eq_of_lt top.2

pub from_lowest : (a i : ℕ) → i ≤ 0 → a / 2 ^ i ≡ a
from_lowest a i h = let none : i ≡ 0 = omega arith in ap (λ (n : ℕ). a / 2 ^ n) none ∙ div-one a

pub digit_below : (a : ℕ) → bit_and a 1 < 2
digit_below a = subst (λ (z : ℕ). z < 2) (sym (and_mask a 1)) (mod-lt a (zero-lt-suc 1))

digit_zero : (a : ℕ) → (bit_and a 1 ≡ 1 → ⊥) → bit_and a 1 ≡ 0
digit_zero a h = let low = digit_below a in omega arith

module _ (a i : ℕ) (h : 0 < i) where
  half : a / 2 ^ (i - 1) / 2 ≡ a / 2 ^ i
  half = let whole : i - 1 + 1 ≡ i = omega arith in shr-shr a (i - 1) 1 ∙ ap (λ (n : ℕ). a / 2 ^ n) whole

  pub next_digit : a / 2 ^ (i - 1) ≡ bit_xor (a / 2 ^ i * 2) (bit_and (a / 2 ^ (i - 1)) 1)
  next_digit =
      sym (by_digits (a / 2 ^ (i - 1)))
      ∙ ap₂ (λ (x y : ℕ). bit_xor (x * 2) y) half (sym (and_mask (a / 2 ^ (i - 1)) 1))

  pub product_digit : (b : ℕ) → product (a / 2 ^ (i - 1)) b ≡ bit_xor (product (a / 2 ^ i) b * 2) (bit_and (a / 2 ^ (i - 1)) 1 * b)
  product_digit b =
      ap (λ (z : ℕ). product z b) next_digit ∙ mul_sum_l b (a / 2 ^ i * 2) (bit_and (a / 2 ^ (i - 1)) 1)
      ∙ ap₂ bit_xor (mul_x_l (a / 2 ^ i) b) (mul_digit (bit_and (a / 2 ^ (i - 1)) 1) b (digit_below (a / 2 ^ (i - 1))))

  pub power_clear : (bit_and (a / 2 ^ (i - 1)) 1 ≡ 1 → ⊥) → power_of_x (a / 2 ^ (i - 1)) ≡ product (power_of_x (a / 2 ^ i)) (power_of_x (a / 2 ^ i))
  power_clear n =
      let low = sym (and_mask (a / 2 ^ (i - 1)) 1) ∙ digit_zero (a / 2 ^ (i - 1)) n in
      let twice : a / 2 ^ (i - 1) ≡ a / 2 ^ i + a / 2 ^ i = omega (arith, half, low) in
      ap power_of_x twice ∙ sym (power_sum (a / 2 ^ i) (a / 2 ^ i))

  pub power_set : bit_and (a / 2 ^ (i - 1)) 1 ≡ 1 → power_of_x (a / 2 ^ (i - 1)) ≡ times_x (product (power_of_x (a / 2 ^ i)) (power_of_x (a / 2 ^ i)))
  power_set e =
      let low = sym (and_mask (a / 2 ^ (i - 1)) 1) ∙ e in
      let twice : a / 2 ^ (i - 1) ≡ suc (a / 2 ^ i + a / 2 ^ i) = omega (arith, half, low) in
      ap power_of_x twice ∙ power_suc (a / 2 ^ i + a / 2 ^ i) ∙ ap times_x (sym (power_sum (a / 2 ^ i) (a / 2 ^ i)))

-- ---- a digit times a number, as a mask

pub masked : (w d b m : ℕ) → d < 2 → b < 2 ^ w → m < 2 ^ w → (m + d) % 2 ^ w ≡ 0 → bit_and b m ≡ d * b
masked w zero b m hd hb hm e =
    let none : m ≡ 0 = sym (mod-eq_of_lt hm) ∙ ap (λ (z : ℕ). z % 2 ^ w) (sym (add-zero m)) ∙ e in
    ap (bit_and b) none ∙ and_zero_r b ∙ sym (zero-mul b)
masked w (suc zero) b m hd hb hm e =
    let ones : m ≡ 2 ^ w - 1 =
    ⊎_elim (λ less. absurd (let none = sym (mod-eq_of_lt less) ∙ e in omega arith)) (λ from. omega arith) (order (m + 1) (2 ^ w)) in
    ap (bit_and b) ones ∙ and_mask b w ∙ mod-eq_of_lt hb ∙ sym (one-mul b)
masked w (suc (suc d)) b m hd hb hm e = absurd (omega arith)

-- ---- x times a remainder, in a word of 32 bits

-- The digit at the degree of p says whether p is taken off.
pub word_times_x : (p n r s : ℕ) → Degree p n → n ≤ 31 → (a : ℕ) → Leaves a p r
    → (r * 2 % 2 ^ 32 / 2 ^ n < 2 → s ≡ r * 2 % 2 ^ 32 / 2 ^ n * p) → Leaves (a * 2) p (bit_xor (r * 2 % 2 ^ 32) s)
word_times_x p n r s hp hn a l h =
    let small = leaves_below a p r n hp l in
    let whole = shift_word 32 r n small (omega arith) in
    let top : r * 2 / 2 ^ n < 2 = (div-lt_iff_lt-mul (pow_pos n)).1 (omega arith) in
    let is : s ≡ r * 2 / 2 ^ n * p = rw whole at (h (rw whole top)) in
    rw (whole, is) (⊎_elim
    (λ e. subst (λ (d : ℕ). Leaves (a * 2) p (bit_xor (r * 2) (d * p))) (sym e)
    (rw (zero-mul, xor_zero_r) (leaves_x_short a p r n hp l e)))
    (λ k.
    let one : r * 2 / 2 ^ n ≡ 1 = omega arith in
    subst (λ (d : ℕ). Leaves (a * 2) p (bit_xor (r * 2) (d * p))) (sym one)
    (rw one-mul (leaves_x_long a p r n hp l (λ e. omega arith))))
    (eq-zero-or-pos (r * 2 / 2 ^ n)))

-- ---- a product of two words of 32 bits, in one of 64

-- while a digit is left, the product so far has room for one more
pub product_shift : (a i b r : ℕ) → a < 2 ^ 32 → b < 2 ^ 32 → 0 < i → r ≡ product (a / 2 ^ i) b → r * 2 % 2 ^ 64 ≡ product (a / 2 ^ i) b * 2
product_shift a i b r ha hb hi e =
    let few : a / 2 ^ i < 2 ^ 31 = omega (arith, half a i hi, shr_le a (i - 1)) in
    ap (λ (z : ℕ). z * 2 % 2 ^ 64) e ∙ shift_word 64 (product (a / 2 ^ i) b) 63 (mul_below 31 32 (a / 2 ^ i) b few hb) (omega arith)

-- ---- the derivative of a word, two digits at a time

-- 1 + x² + x⁴ + …, with k terms
abbrev pub even_powers : ℕ → ℕ
even_powers zero = 0
even_powers (suc k) = even_powers k * 4 + 1

cancelled : (x r y : ℕ) → bit_xor (bit_xor x r) (bit_xor x y) ≡ bit_xor y r
cancelled x r y = simp sums

two_digits : (a : ℕ) → derivative a ≡ derivative (a / 4) * 4 + a / 2 % 2
two_digits a =
    let d = derivative (a / 4) in
    let four : d * 2 * 2 ≡ d * 4 = omega arith in
    derivative_step a
    ∙ ap (λ (z : ℕ). bit_xor (a / 2) (z * 2)) (derivative_step (a / 2) ∙ ap (λ (z : ℕ). bit_xor z (derivative z * 2)) (shr-shr a 1 1))
    ∙ ap₂ bit_xor (sym (by_digits (a / 2)) ∙ ap (λ (z : ℕ). bit_xor (z * 2) (a / 2 % 2)) (shr-shr a 1 1)) (xor_double (a / 4) (d * 2))
    ∙ cancelled (a / 4 * 2) (a / 2 % 2) (d * 2 * 2)
    ∙ ap (λ (z : ℕ). bit_xor z (a / 2 % 2)) four
    ∙ xor_shifted d 2 (a / 2 % 2) (lt_of_lt_of_le (mod-lt (a / 2) (zero-lt-suc 1)) (omega arith))

pub derivative_word : (k a : ℕ) → a < 4 ^ k → derivative a ≡ bit_and (a / 2) (even_powers k)
derivative_word zero a h = ap derivative none ∙ derivative_zero ∙ sym (and_zero_r (a / 2))
  where
    none : a ≡ 0
    none = omega arith
derivative_word (suc k) a h =
    let rest = derivative_word k (a / 4) ((div-lt_iff_lt-mul (zero-lt-suc 3)).1 (subst (λ (z : ℕ). a < z) (pow-suc 4 k) h)) in
    let block = and_block 2 (a / 2 / 4) (even_powers k) (a / 2 % 4) 1 (mod-lt (a / 2) (zero-lt-suc 3)) (omega arith) in
    let same : a / 2 / 4 ≡ a / 4 / 2 = omega arith in
    let low : bit_and (a / 2 % 4) 1 ≡ a / 2 % 2 = and_mask (a / 2 % 4) 1 ∙ omega arith in
    two_digits a
    ∙ ap (λ (z : ℕ). z * 4 + a / 2 % 2) (rest ∙ ap (λ (z : ℕ). bit_and z (even_powers k)) (sym same))
    ∙ sym (ap (λ (z : ℕ). bit_and z (even_powers k * 4 + 1)) (sym (div-add-mod' (a / 2) 4)) ∙ block ∙ ap (λ (z : ℕ). bit_and (a / 2 / 4) (even_powers k) * 4 + z) low)
