-- States of n cells, and the step of a ring. A state is a number below 2^n; cell k, counted from 1, is its bit k − 1.
-- Cells 0 and n + 1 lie outside, and are always 0.
--
--   cell n s k       == x_k, cell k of the state s of n cells
--   word n f         == the state of n cells whose cell k is f k
--   ring_next n v s  == the state after s in the ring of the vector v:
--                       x_k(t+1) = x_(k−1)(t) + c_k·x_k(t) + x_(k+1)(t) modulo 2
use Rattle.std.specs.Prelude.{ℕ, zero, suc, ◌+◌, ◌-◌, ◌*◌, ◌/◌, ◌%◌, ◌^◌}
use Rattle.rings.specs.Vectors.{rule}

unfoldable pub cell : ℕ → ℕ → ℕ → ℕ
cell n s zero = 0
cell n s (suc k) = s % 2 ^ n / 2 ^ k % 2

unfoldable pub word : ℕ → (ℕ → ℕ) → ℕ
word zero f = 0
word (suc n) f = f (suc n) * 2 ^ n + word n f

-- c_k stands in bit k − 1 of the vector
unfoldable pub ring_next : ℕ → ℕ → ℕ → ℕ
ring_next n v s = word n (λ k. (cell n s (k - 1) + rule v (k - 1) * cell n s k + cell n s (k + 1)) % 2)
