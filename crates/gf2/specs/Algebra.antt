-- Polynomials over GF(2). A number stands for a polynomial: bit i is the coefficient of x^i, and the sum is exclusive or.
--
--   act f a s      == the sum of f^i(s) over the exponents i of a
--   times_x a      == x·a
--   power_of_x e   == x^e
--   product a b    == a·b, the sum of x^i·b over the exponents i of a
--   derivative a   == the formal derivative: that of c + x·b, with a constant c, is b + x·b'
--   Degree p n     == the highest power of x in p is x^n
--   Leaves a p r   == a leaves r modulo p: r is of lower degree than p, and a is a multiple of p plus r
use Rattle.std.specs.Prelude.{◌≡◌, ℕ, zero, suc, ◌*◌, ◌/◌, ◌%◌, ◌^◌, ◌<◌, bit_xor}

-- The lowest digit of a says whether s itself is in the sum; the rest of a acts on f(s). The first number bounds how
-- many digits are read: a has no more than a of them.
abbrev pub act_by : ℕ → (ℕ → ℕ) → ℕ → ℕ → ℕ
act_by zero f a s = 0
act_by (suc n) f zero s = 0
act_by (suc n) f (suc a) s = bit_xor (suc a % 2 * s) (act_by n f (suc a / 2) (f s))

unfoldable pub act : (ℕ → ℕ) → ℕ → ℕ → ℕ
act f a s = act_by a f a s

abbrev pub times_x : ℕ → ℕ
times_x a = a * 2

unfoldable pub power_of_x : ℕ → ℕ
power_of_x e = 2 ^ e

unfoldable pub product : ℕ → ℕ → ℕ
unfolding act
product a b = act times_x a b

abbrev pub derivative_by : ℕ → ℕ → ℕ
derivative_by zero a = 0
derivative_by (suc n) zero = 0
derivative_by (suc n) (suc a) = bit_xor (suc a / 2) (times_x (derivative_by n (suc a / 2)))

unfoldable pub derivative : ℕ → ℕ
derivative a = derivative_by a a

abbrev pub Degree : ℕ → ℕ → Type 0
Degree p n = p / 2 ^ n ≡ 1

pub record Leaves (a p r : ℕ) : Type 0 where
  pub degree : ℕ
  pub leading : Degree p degree
  pub lower : r < 2 ^ degree
  pub quotient : ℕ
  pub divides : a ≡ bit_xor (product quotient p) r
