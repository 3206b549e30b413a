-- The identity that singles out the vectors of a polynomial. Along the recurrence of a vector, each polynomial p and the
-- one before it, y, satisfy one relation; read modulo p it is the relation of K. Cattell and J. C. Muzio, 'Synthesis of
-- one-dimensional linear hybrid cellular automata', IEEE Transactions on CAD, 1996. For a given p it is linear in y.
--
--   image p y   == p·y + y² + (x² + x)·(p·y)', which is additive in y
--   Q p y       == p² + p·y + y² + (x² + x)·(p·y)'
--   published   == y² + (x² + x)·p'·y + 1
--   Identity    == Q is 1 for every vector, and so the published relation leaves 0 modulo its polynomial
use Rattle.std.specs.Prelude.{◌≡◌, ℕ, bit_xor}
use Rattle.gf2.specs.Algebra.{product, derivative, Leaves}
use Rattle.rings.specs.Vectors.{recurrence, recurrence_from}

-- x² + x
abbrev pub x²+x : ℕ
x²+x = 6

unfoldable pub image : ℕ → ℕ → ℕ
image p y = bit_xor (bit_xor (product p y) (product y y)) (product x²+x (derivative (product p y)))

unfoldable pub Q : ℕ → ℕ → ℕ
unfolding image
Q p y = bit_xor (product p p) (image p y)

unfoldable pub published : ℕ → ℕ → ℕ
published p y = bit_xor (bit_xor (product y y) (product x²+x (product (derivative p) y))) 1

-- p is the polynomial of a vector of n cells, and y that of its first n − 1 cells
pub record Identity : Type 0 where
  pub whole : (n v : ℕ) → Q (recurrence n v) (recurrence_from n v) ≡ 1
  pub modulo : (n v : ℕ) → Leaves (published (recurrence n v) (recurrence_from n v)) (recurrence n v) 0
