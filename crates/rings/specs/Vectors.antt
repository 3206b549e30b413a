-- Rule vectors and their polynomials. Bit k − 1 of a vector is c_k: 0 where cell k follows rule 90, 1 where it follows
-- rule 150. Rows and columns are counted from 0, so row i is cell i + 1.
--
--   rule v i            == 1 where cell i + 1 follows rule 150, 0 where it follows rule 90
--   step_matrix v       == A, the matrix of one step: a cell takes the sum of its two neighbours, and of itself under
--                          rule 150; what lies outside is always 0
--   identity            == I
--   characteristic v    == xI + A
--   polynomial_of n v   == the polynomial of the vector v of n cells, det(xI + A)
--   recurrence n v      == p_n, where p_(−1) = 0, p_0 = 1 and p_k = (x + c_k)·p_(k−1) + p_(k−2)
--   recurrence_from k v == p_(k−1) of the same
use Rattle.std.specs.Prelude.{ℕ, zero, suc, ◌+◌, ◌-◌, ◌/◌, ◌%◌, ◌^◌, bit_xor}
use Rattle.gf2.specs.Algebra.{product}
use Rattle.rings.specs.Determinant.{Matrix, determinant}

abbrev pub rule : ℕ → ℕ → ℕ
rule v i = v / 2 ^ i % 2

abbrev pub distance : ℕ → ℕ → ℕ
distance i j = (i - j) + (j - i)

-- what a cell under rule c takes from a cell so many places away
abbrev pub taken : ℕ → ℕ → ℕ
taken c zero = c
taken c (suc zero) = 1
taken c (suc (suc d)) = 0

abbrev pub step_matrix : ℕ → Matrix
step_matrix v = λ i j. taken (rule v i) (distance i j)

abbrev pub diagonal : ℕ → ℕ
diagonal zero = 1
diagonal (suc d) = 0

abbrev pub identity : Matrix
identity = λ i j. diagonal (distance i j)

unfoldable pub characteristic : ℕ → Matrix
characteristic v = λ i j. bit_xor (product 2 (identity i j)) (step_matrix v i j)

unfoldable pub polynomial_of : ℕ → ℕ → ℕ
unfolding characteristic
polynomial_of n v = determinant n (characteristic v)

-- k counts from p_(−1) on
unfoldable pub recurrence_from : ℕ → ℕ → ℕ
recurrence_from zero v = 0
recurrence_from (suc zero) v = 1
recurrence_from (suc (suc k)) v = bit_xor (product (bit_xor 2 (rule v k)) (recurrence_from (suc k) v)) (recurrence_from k v)

unfoldable pub recurrence : ℕ → ℕ → ℕ
unfolding recurrence_from
recurrence n v = recurrence_from (suc n) v
