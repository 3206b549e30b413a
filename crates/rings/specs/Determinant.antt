-- Square matrices of polynomials over GF(2), and their determinants. A matrix gives the entry of row i and column j,
-- both counted from 0; its size stands beside it.
--
--   sum n f            == f 0 + f 1 + … + f (n − 1)
--   skip j k           == the k-th column of those that are left without column j
--   minor j m          == m without its last row and column j
--   determinant n m    == the determinant of the n rows and columns of m, expanded along the last row. In
--                         characteristic 2 no term has a sign.
use Rattle.std.specs.Prelude.{ℕ, zero, suc, ◌+◌, ◌-◌, bit_xor}
use Rattle.gf2.specs.Algebra.{product}

abbrev pub Matrix : Type 0
Matrix = ℕ → ℕ → ℕ

unfoldable pub sum : ℕ → (ℕ → ℕ) → ℕ
sum zero f = 0
sum (suc n) f = bit_xor (sum n f) (f n)

-- k below j, and k + 1 from j on
abbrev pub skip : ℕ → ℕ → ℕ
skip j k = k + (1 - (j - k))

abbrev pub minor : ℕ → Matrix → Matrix
minor j m = λ i k. m i (skip j k)

unfoldable pub determinant : ℕ → Matrix → ℕ
determinant zero m = 1
determinant (suc n) m = sum (suc n) (λ j. product (m n j) (determinant n (minor j m)))
