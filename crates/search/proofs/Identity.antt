-- The identity holds at the start of the recurrence, and each step keeps it.
use Rattle.std.proofs.Common.{◌≡◌, ℕ, zero, suc, ◌/◌, ◌^◌, ◌<◌, sym, refl, ap, ◌∙◌, ap₂, mod-lt, zero-lt-suc, arith, pow_pos}
use lib.Bits.{bit_xor, xor_zero_r, xor_self}
use Rattle.gf2.specs.Algebra.{product, derivative, Leaves}
use Rattle.gf2.proofs.Ring.{ring, mul_one_l, mul_zero_l, mul_comm}
use Rattle.gf2.proofs.Derivation.{derivative_additive, derivative_product}
use Rattle.rings.specs.Vectors.{rule, recurrence, recurrence_from}
use Rattle.rings.proofs.Degrees.{recurrence_degree}
use Rattle.search.specs.Identity.{x²+x, image, Q, published, Identity}

-- (s²)' = 0
square_slope : (s : ℕ) → derivative (product s s) ≡ 0
square_slope s = derivative_product s s ∙ ap (bit_xor (product (derivative s) s)) (mul_comm s (derivative s)) ∙ xor_self (product (derivative s) s)

-- what is left once the derivatives are taken
taken : (a y z d : ℕ) →
    bit_xor (product (bit_xor (product a y) z) (bit_xor (product a y) z))
    (bit_xor (bit_xor (product (bit_xor (product a y) z) y) (product y y)) (product (bit_xor (product a a) a) (bit_xor (product y y) d)))
    ≡ bit_xor (product y y) (bit_xor (bit_xor (product y z) (product z z)) (product (bit_xor (product a a) a) d))
taken a y z d = simp ring

module _ (a y z : ℕ) (unit : derivative a ≡ 1) (is : bit_xor (product a a) a ≡ x²+x) where
  -- ((a·y + z)·y)' = y² + (y·z)'
  slope : derivative (product (bit_xor (product a y) z) y) ≡ bit_xor (product y y) (derivative (product y z))
  slope =
      ap derivative (let e : product (bit_xor (product a y) z) y ≡ bit_xor (product a (product y y)) (product y z) = simp ring in e)
      ∙ derivative_additive (product a (product y y)) (product y z)
      ∙ ap (λ (w : ℕ). bit_xor w (derivative (product y z)))
      (derivative_product a (product y y)
      ∙ ap₂ bit_xor (ap (λ (w : ℕ). product w (product y y)) unit ∙ mul_one_l (product y y)) (ap (product a) (square_slope y) ∙ mul_comm a 0 ∙ mul_zero_l a)
      ∙ xor_zero_r (product y y))

  invariant : Q (bit_xor (product a y) z) y ≡ Q y z
  unfolding Q image
  invariant =
      let p = bit_xor (product a y) z in
      ap₂ (λ (e s : ℕ). bit_xor (product p p) (bit_xor (bit_xor (product p y) (product y y)) (product e s))) (sym is) slope
      ∙ taken a y z (derivative (product y z))
      ∙ ap (λ (e : ℕ). bit_xor (product y y) (bit_xor (bit_xor (product y z) (product z z)) (product e (derivative (product y z))))) is

-- a = x + c
linear_slope : (c : ℕ) → c < 2 → derivative (bit_xor 2 c) ≡ 1
unfolding derivative
linear_slope zero h = refl
linear_slope (suc zero) h = refl
linear_slope (suc (suc c)) h = absurd (omega arith)

linear_square : (c : ℕ) → c < 2 → bit_xor (product (bit_xor 2 c) (bit_xor 2 c)) (bit_xor 2 c) ≡ x²+x
unfolding product
linear_square zero h = refl
linear_square (suc zero) h = refl
linear_square (suc (suc c)) h = absurd (omega arith)

start : Q 1 0 ≡ 1
unfolding Q image product derivative
start = refl

kept : (k v : ℕ) → Q (recurrence_from (suc k) v) (recurrence_from k v) ≡ 1
unfolding recurrence_from
kept zero v = start
kept (suc k) v =
    let c = rule v k in
    let low = mod-lt (v / 2 ^ k) (zero-lt-suc 1) in
    invariant (bit_xor 2 c) (recurrence_from (suc k) v) (recurrence_from k v) (linear_slope c low) (linear_square c low) ∙ kept k v

pub identity_whole : (n v : ℕ) → Q (recurrence n v) (recurrence_from n v) ≡ 1
unfolding recurrence
identity_whole n v = kept n v

-- p times what p divides it by
factored : (p y d e f : ℕ) →
    bit_xor (bit_xor (product y y) (product f (product d y)))
    (bit_xor (product p p) (bit_xor (bit_xor (product p y) (product y y)) (product f (bit_xor (product d y) (product p e)))))
    ≡ product (bit_xor (bit_xor p y) (product f e)) p
factored p y d e f = simp ring

modulo : (p y n : ℕ) → p / 2 ^ n ≡ 1 → Q p y ≡ 1 → Leaves (published p y) p 0
unfolding Q image published
modulo p y n hp is =
    record {
      degree = n;
      leading = hp;
      lower = pow_pos n;
      quotient = bit_xor (bit_xor p y) (product x²+x (derivative y));
      divides =
          ap (bit_xor (bit_xor (product y y) (product x²+x (product (derivative p) y))))
          (sym is ∙ ap (λ (s : ℕ). bit_xor (product p p) (bit_xor (bit_xor (product p y) (product y y)) (product x²+x s))) (derivative_product p y))
          ∙ factored p y (derivative p) (derivative y) x²+x
          ∙ sym (xor_zero_r (product (bit_xor (bit_xor p y) (product x²+x (derivative y))) p));
    }

pub identity : Identity
identity = record { whole = identity_whole; modulo = λ n v. modulo (recurrence n v) (recurrence_from n v) n (recurrence_degree n v) (identity_whole n v) }
