-- Degrees, and division with remainder: a quotient exists, and the remainder is one number.
use Rattle.std.proofs.Common.{◌≡◌, ℕ, zero, suc, ◌+◌, ◌*◌, ◌/◌, ◌%◌, ◌^◌, ◌<◌, ◌≤◌, sym, ap, ◌∙◌, subst, ap₂, ⊎_elim, lt_of_lt_of_le, mod-lt, zero-lt-suc, div-lt_iff_lt-mul, eq-zero-or-pos, suc-add, one-mul, pow-suc, le-div_iff_mul-le, zero-add, zero-mul, div-one, mul-div_cancel, one-add, arith, pow_pos, pow_mono, shr-shr}
use native.Mathlib.Nat.{div-eq_of_lt}
use lib.Arith.{bin_ind, lt-one}
use lib.Bits.{bit_xor, xor_shr, xor_self, xor_comm, xor_assoc, xor_zero_r, xor_lt}
use Rattle.gf2.proofs.Orders.{order}
use Rattle.gf2.specs.Algebra.{product, Degree, Leaves}
use Rattle.gf2.proofs.Sums.{by_digits, xor_cancel, xor_swap, xor_double}
use Rattle.gf2.proofs.Ring.{mul_zero_l, mul_one_l, mul_one_r, mul_sum_l, mul_sum_r, mul_x_l, mul_comm, mul_assoc}

-- ---- degrees

pub below : (a n : ℕ) → a / 2 ^ n ≡ 0 → a < 2 ^ n
below a n e = subst (λ (z : ℕ). a < z) (one-mul (2 ^ n)) ((div-lt_iff_lt-mul {y = 1} (pow_pos n)).0 (omega arith))

pub reaches : (a n : ℕ) → (a / 2 ^ n ≡ 0 → ⊥) → 2 ^ n ≤ a
reaches a n h = ⊎_elim (λ less. absurd (h (div-eq_of_lt less))) (λ from. from) (order a (2 ^ n))

pub degree_above : (p n : ℕ) → Degree p n → 2 ^ n ≤ p
degree_above p n e = subst (λ (z : ℕ). z ≤ p) (one-mul (2 ^ n)) ((le-div_iff_mul-le {x = 1} (pow_pos n)).0 (omega arith))

pub degree_below : (p n : ℕ) → Degree p n → p < 2 ^ suc n
degree_below p n e =
    subst (λ (z : ℕ). p < z) (sym (pow-suc 2 n ∙ omega arith)) ((div-lt_iff_lt-mul {y = 2} (pow_pos n)).0 (omega arith))

degree_unordered : (p m n : ℕ) → Degree p m → Degree p n → m < n → ⊥
degree_unordered p m n e f h =
    let up = pow_mono {i = suc m} {j = n} h in
    let low = degree_above p n f in
    let high = degree_below p m e in
    omega arith

pub degree_unique : (p m n : ℕ) → Degree p m → Degree p n → m ≡ n
degree_unique p m n e f =
    ⊎_elim (λ h. absurd (degree_unordered p m n e f h))
    (λ h. ⊎_elim (λ k. absurd (degree_unordered p n m f e k)) (λ k. omega arith) (order n m))
    (order m n)

pub double_shr : (a n : ℕ) → a * 2 / 2 ^ suc n ≡ a / 2 ^ n
double_shr a n =
    ap (λ (z : ℕ). a * 2 / 2 ^ z) (sym (one-add n)) ∙ sym (shr-shr (a * 2) 1 n) ∙ ap (λ (z : ℕ). z / 2 ^ n) (mul-div_cancel a (zero-lt-suc 1))

pub half_shr : (a n : ℕ) → a / 2 / 2 ^ n ≡ a / 2 ^ suc n
half_shr a n = shr-shr a 1 n ∙ ap (λ (z : ℕ). a / 2 ^ z) (one-add n)

-- a constant, 0 or 1, times p
pub mul_digit : (d p : ℕ) → d < 2 → product d p ≡ d * p
mul_digit zero p h = mul_zero_l p ∙ sym (zero-mul p)
mul_digit (suc zero) p h = mul_one_l p ∙ sym (one-mul p)
mul_digit (suc (suc d)) p h = absurd (omega arith)

-- the product by the lowest digit of its first factor
pub mul_step : (q p : ℕ) → product q p ≡ bit_xor (product (q / 2) p * 2) (q % 2 * p)
mul_step q p =
    ap (λ (z : ℕ). product z p) (sym (by_digits q)) ∙ mul_sum_l p (q / 2 * 2) (q % 2)
    ∙ ap₂ bit_xor (mul_x_l (q / 2) p) (mul_digit (q % 2) p (mod-lt q (zero-lt-suc 1)))

pub digit_below : (d p n : ℕ) → d < 2 → p < 2 ^ n → d * p < 2 ^ n
digit_below zero p n h k = subst (λ (z : ℕ). z < 2 ^ n) (sym (zero-mul p)) (pow_pos n)
digit_below (suc zero) p n h k = subst (λ (z : ℕ). z < 2 ^ n) (sym (one-mul p)) k
digit_below (suc (suc d)) p n h k = absurd (omega arith)

pub mul_below : (m n a b : ℕ) → a < 2 ^ m → b < 2 ^ n → product a b < 2 ^ (m + n)
mul_below zero n a b ha hb =
    subst (λ (z : ℕ). z < 2 ^ (0 + n)) (sym (ap (λ (z : ℕ). product z b) (lt-one ha) ∙ mul_zero_l b)) (pow_pos (0 + n))
mul_below (suc m) n a b ha hb =
    let inner = mul_below m n (a / 2) b (below (a / 2) m (half_shr a m ∙ div-eq_of_lt ha)) hb in
    let zeros : bit_xor (product (a / 2) b * 2) (a % 2 * b) / 2 ^ suc (m + n) ≡ 0 =
    xor_shr (product (a / 2) b * 2) (a % 2 * b) (suc (m + n))
    ∙ ap₂ bit_xor (double_shr (product (a / 2) b) (m + n) ∙ div-eq_of_lt inner)
    (div-eq_of_lt (digit_below (a % 2) b (suc (m + n)) (mod-lt a (zero-lt-suc 1)) (lt_of_lt_of_le hb (pow_mono (omega arith))))) in
    subst (λ (z : ℕ). product a b < 2 ^ z) (sym (suc-add m n))
    (subst (λ (z : ℕ). z < 2 ^ suc (m + n)) (sym (mul_step a b)) (below _ (suc (m + n)) zeros))

pub degree_product : (m n q p : ℕ) → Degree q m → Degree p n → Degree (product q p) (m + n)
degree_product zero n q p hq hp =
    ap₂ (λ (x y : ℕ). product x p / 2 ^ y) (sym (div-one q) ∙ hq) (zero-add n) ∙ ap (λ (z : ℕ). z / 2 ^ n) (mul_one_l p) ∙ hp
degree_product (suc m) n q p hq hp =
    ap₂ (λ (x y : ℕ). x / 2 ^ y) (mul_step q p) (suc-add m n)
    ∙ xor_shr (product (q / 2) p * 2) (q % 2 * p) (suc (m + n))
    ∙ ap₂ bit_xor
    (double_shr (product (q / 2) p) (m + n) ∙ degree_product m n (q / 2) p (half_shr q m ∙ hq) hp)
    (div-eq_of_lt (digit_below (q % 2) p (suc (m + n)) (mod-lt q (zero-lt-suc 1)) (lt_of_lt_of_le (degree_below p n hp) (pow_mono (omega arith)))))

pub has_degree : (q : ℕ) → 0 < q → (m : ℕ) × Degree q m
has_degree =
    bin_ind (λ (q : ℕ). 0 < q → (m : ℕ) × Degree q m) (λ h. absurd (omega arith))
    (λ q ih h. ⊎_elim
    (λ e. (0, div-one q ∙ omega arith))
    (λ k. let d = ih k in (suc d.0, sym (half_shr q d.0) ∙ d.1))
    (eq-zero-or-pos (q / 2)))

-- a multiple of p of lower degree than p is 0
pub multiple_zero : (q p n : ℕ) → Degree p n → product q p < 2 ^ n → q ≡ 0
multiple_zero q p n hp h =
    ⊎_elim (λ e. e)
    (λ k.
    let d = has_degree q k in
    let above = degree_above (product q p) (d.0 + n) (degree_product d.0 n q p d.1 hp) in
    let grows = pow_mono {i = n} {j = d.0 + n} (omega arith) in
    absurd (omega arith))
    (eq-zero-or-pos q)

-- ---- remainders

-- what is of lower degree than p leaves itself
pub leaves_self : (p n r : ℕ) → Degree p n → r < 2 ^ n → Leaves r p r
leaves_self p n r hp h =
    record { degree = n; leading = hp; lower = h; quotient = 0; divides = sym (ap (λ (z : ℕ). bit_xor z r) (mul_zero_l p)) }

pub leaves_below : (a p r n : ℕ) → Degree p n → Leaves a p r → r < 2 ^ n
leaves_below a p r n hp l = subst (λ (z : ℕ). r < 2 ^ z) (degree_unique p l.degree n l.leading hp) l.lower

pub leaves_sum : (a b p r s : ℕ) → Leaves a p r → Leaves b p s → Leaves (bit_xor a b) p (bit_xor r s)
leaves_sum a b p r s l k =
    record {
      degree = l.degree;
      leading = l.leading;
      lower = xor_lt l.degree r s l.lower (leaves_below b p s l.degree l.leading k);
      quotient = bit_xor l.quotient k.quotient;
      divides =
          ap₂ bit_xor l.divides k.divides ∙ xor_swap (product l.quotient p) r (product k.quotient p) s
          ∙ ap (λ (z : ℕ). bit_xor z (bit_xor r s)) (sym (mul_sum_l p l.quotient k.quotient));
    }

-- two numbers that differ by a multiple of p leave the same
pub leaves_multiple : (q a p r : ℕ) → Leaves a p r → Leaves (bit_xor (product q p) a) p r
leaves_multiple q a p r l =
    record {
      degree = l.degree;
      leading = l.leading;
      lower = l.lower;
      quotient = bit_xor q l.quotient;
      divides =
          ap (bit_xor (product q p)) l.divides ∙ sym (xor_assoc (product q p) (product l.quotient p) r)
          ∙ ap (λ (z : ℕ). bit_xor z r) (sym (mul_sum_l p q l.quotient));
    }

pub leaves_unique : (a p r s : ℕ) → Leaves a p r → Leaves a p s → r ≡ s
leaves_unique a p r s l k =
    let q = bit_xor l.quotient k.quotient in
    let n = l.degree in
    let meet : product q p ≡ bit_xor r s =
    mul_sum_l p l.quotient k.quotient
    ∙ sym (xor_cancel (bit_xor r s) (bit_xor (product l.quotient p) (product k.quotient p)))
    ∙ ap (bit_xor (bit_xor r s))
    (xor_comm (bit_xor r s) (bit_xor (product l.quotient p) (product k.quotient p))
    ∙ xor_swap (product l.quotient p) (product k.quotient p) r s
    ∙ ap₂ bit_xor (sym l.divides) (sym k.divides) ∙ xor_self a)
    ∙ xor_zero_r (bit_xor r s) in
    let small = subst (λ (z : ℕ). z < 2 ^ n) (sym meet) (xor_lt n r s l.lower (leaves_below a p s n l.leading k)) in
    let none : bit_xor r s ≡ 0 =
    sym meet ∙ ap (λ (z : ℕ). product z p) (multiple_zero q p n l.leading small) ∙ mul_zero_l p in
    sym (xor_zero_r r) ∙ ap (bit_xor r) (sym none) ∙ xor_cancel r s

-- x times a: the remainder is doubled, and p is taken off where that reaches its degree
module _ (a p r n : ℕ) (hp : Degree p n) (l : Leaves a p r) where
  doubled : a * 2 ≡ bit_xor (product (l.quotient * 2) p) (r * 2)
  doubled =
      ap (λ (z : ℕ). z * 2) l.divides ∙ xor_double (product l.quotient p) r
      ∙ ap (λ (z : ℕ). bit_xor z (r * 2)) (sym (mul_x_l l.quotient p))

  pub leaves_x_short : r * 2 / 2 ^ n ≡ 0 → Leaves (a * 2) p (r * 2)
  leaves_x_short e =
      record { degree = n; leading = hp; lower = below (r * 2) n e; quotient = l.quotient * 2; divides = doubled }

  pub leaves_x_long : (r * 2 / 2 ^ n ≡ 0 → ⊥) → Leaves (a * 2) p (bit_xor (r * 2) p)
  leaves_x_long e =
      let small = leaves_below a p r n hp l in
      let top : r * 2 / 2 ^ n < 2 = (div-lt_iff_lt-mul (pow_pos n)).1 (omega arith) in
      let one : r * 2 / 2 ^ n ≡ 1 = omega arith in
      record {
        degree = n;
        leading = hp;
        lower = below (bit_xor (r * 2) p) n (xor_shr (r * 2) p n ∙ ap₂ bit_xor one hp);
        quotient = bit_xor (l.quotient * 2) 1;
        divides =
            doubled
            ∙ ap (bit_xor (product (l.quotient * 2) p)) (sym (xor_cancel p (r * 2)) ∙ ap (bit_xor p) (xor_comm p (r * 2)))
            ∙ sym (xor_assoc (product (l.quotient * 2) p) p (bit_xor (r * 2) p))
            ∙ ap (λ (z : ℕ). bit_xor z (bit_xor (r * 2) p))
            (ap (bit_xor (product (l.quotient * 2) p)) (sym (mul_one_l p)) ∙ sym (mul_sum_l p (l.quotient * 2) 1));
      }

  pub leaves_x : (s : ℕ) × Leaves (a * 2) p s
  leaves_x =
      ⊎_elim (λ e. (r * 2, leaves_x_short e)) (λ k. (bit_xor (r * 2) p, leaves_x_long (λ e. omega arith)))
      (eq-zero-or-pos (r * 2 / 2 ^ n))

-- a digit, 0 or 1, leaves something
leaves_digit : (d p n : ℕ) → Degree p n → d < 2 → (r : ℕ) × Leaves d p r
leaves_digit d p n hp h =
    ⊎_elim (λ e. (d, leaves_self p n d hp (below d n e)))
    (λ k.
    let top : n ≡ 0 = ⊎_elim (λ z. z) (λ z. let grows = pow_mono {i = 1} {j = n} z in let none = div-eq_of_lt {n = d} {m = 2 ^ n} (omega arith) in absurd (omega arith)) (eq-zero-or-pos n) in
    let is_one : p ≡ 1 = sym (div-one p) ∙ ap (λ (z : ℕ). p / 2 ^ z) (sym top) ∙ hp in (
      0,
      record {
        degree = n;
        leading = hp;
        lower = pow_pos n;
        quotient = d;
        divides = sym (mul_one_r d) ∙ ap (product d) (sym is_one) ∙ sym (xor_zero_r (product d p));
      },
    ))
    (eq-zero-or-pos (d / 2 ^ n))

pub leaves_some : (p n a : ℕ) → Degree p n → (r : ℕ) × Leaves a p r
leaves_some p n a hp =
    bin_ind (λ (a : ℕ). (r : ℕ) × Leaves a p r) (leaves_digit 0 p n hp (omega arith))
    (λ a ih.
    let twice = leaves_x (a / 2) p ih.0 n hp ih.1 in
    let digit = leaves_digit (a % 2) p n hp (mod-lt a (zero-lt-suc 1)) in
    let sum = leaves_sum (a / 2 * 2) (a % 2) p twice.0 digit.0 twice.1 digit.1 in
    (bit_xor twice.0 digit.0, subst (λ (z : ℕ). Leaves z p (bit_xor twice.0 digit.0)) (by_digits a) sum))
    a

-- a constant times what leaves r
pub leaves_digit_times : (d a p r : ℕ) → d < 2 → Leaves a p r → Leaves (d * a) p (d * r)
leaves_digit_times zero a p r h l = rw (zero-mul a, zero-mul r) (leaves_self p l.degree 0 l.leading (pow_pos l.degree))
leaves_digit_times (suc zero) a p r h l = rw (one-mul a, one-mul r) l
leaves_digit_times (suc (suc d)) a p r h l = absurd (omega arith)

-- modulo p, factors may be replaced by what they leave
pub leaves_product : (a b p r s t : ℕ) → Leaves a p r → Leaves b p s → Leaves (product r s) p t → Leaves (product a b) p t
leaves_product a b p r s t l k h =
    let q = bit_xor (product l.quotient b) (product r k.quotient) in
    let split : product a b ≡ bit_xor (product q p) (product r s) =
    ap (λ (z : ℕ). product z b) l.divides ∙ mul_sum_l b (product l.quotient p) r
    ∙ ap (bit_xor (product (product l.quotient p) b)) (ap (product r) k.divides ∙ mul_sum_r r (product k.quotient p) s)
    ∙ sym (xor_assoc (product (product l.quotient p) b) (product r (product k.quotient p)) (product r s))
    ∙ ap (λ (z : ℕ). bit_xor z (product r s))
    (ap₂ bit_xor
    (mul_assoc l.quotient p b ∙ ap (product l.quotient) (mul_comm p b) ∙ sym (mul_assoc l.quotient b p))
    (sym (mul_assoc r k.quotient p))
    ∙ sym (mul_sum_l p (product l.quotient b) (product r k.quotient))) in
    subst (λ (z : ℕ). Leaves z p t) (sym split) (leaves_multiple q (product r s) p t h)

-- a number that multiplies whatever leaves r, at r itself
pub leaves_square : (a p r t : ℕ) → Leaves a p r → ((c : ℕ) → Leaves c p r → Leaves (product r c) p t) → Leaves (product a a) p t
leaves_square a p r t l h = leaves_product a a p r r t l l (h r (leaves_self p l.degree r l.leading l.lower))
