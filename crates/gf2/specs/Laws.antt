-- What is claimed of the arithmetic as a whole: each record is a theorem, and a contract of the crate names it.
--
--   Ring       == sum and product make a commutative ring with 1, in which degrees add up
--   Derivation == the formal derivative is additive and keeps the product rule
--   Division   == every polynomial leaves something modulo p, and only one thing
use Rattle.std.specs.Prelude.{◌≡◌, ℕ, ◌+◌, bit_xor}
use Rattle.gf2.specs.Algebra.{product, derivative, Degree, Leaves}

pub record Ring : Type 0 where
  pub one : (a : ℕ) → product 1 a ≡ a
  pub commutes : (a b : ℕ) → product a b ≡ product b a
  pub associates : (a b c : ℕ) → product (product a b) c ≡ product a (product b c)
  pub distributes : (a b c : ℕ) → product (bit_xor a b) c ≡ bit_xor (product a c) (product b c)
  pub degrees : (m n a b : ℕ) → Degree a m → Degree b n → Degree (product a b) (m + n)

pub record Derivation : Type 0 where
  pub sum : (a b : ℕ) → derivative (bit_xor a b) ≡ bit_xor (derivative a) (derivative b)
  pub leibniz : (a b : ℕ) → derivative (product a b) ≡ bit_xor (product (derivative a) b) (product a (derivative b))

pub record Division (p : ℕ) : Type 0 where
  pub exists : (a : ℕ) → (r : ℕ) × Leaves a p r
  pub unique : (a r s : ℕ) → Leaves a p r → Leaves a p s → r ≡ s
