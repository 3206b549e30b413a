-- Back from two neighbours in the recurrence of a vector to the vector.
--
--   Undoes n p y r == r is the vector of n cells that has the polynomial p and, without its last cell, y, if one has them
use Rattle.std.specs.Prelude.{◌≡◌, ℕ, ◌^◌, ◌<◌}
use Rattle.rings.specs.Vectors.{recurrence, recurrence_from}

abbrev pub Undoes : ℕ → ℕ → ℕ → ℕ → Type 0
Undoes n p y r = (v : ℕ) → v < 2 ^ n → recurrence n v ≡ p → recurrence_from n v ≡ y → r ≡ v
