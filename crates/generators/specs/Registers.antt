-- Shift registers with linear feedback. The polynomial p has degree n, the number of cells; p_i is the coefficient of x^i.
--
--   coefficient p i      == p_i
--   total m f            == f 1 + f 2 + … + f m
--   feedback p n s       == the sum of p_(n−i)·x_i over i = 1 … n
--   register_cell p n s  == x_1(t+1) = p_(n−1)·x_1(t) + … + p_0·x_n(t) modulo 2, and x_k(t+1) = x_(k−1)(t) for k from 2 on
--   register_next p n s  == the state after s in the register of p
--   taps p n             == the word whose cell i is p_(n−i)
use Rattle.std.specs.Prelude.{ℕ, zero, suc, ◌+◌, ◌-◌, ◌*◌, ◌/◌, ◌%◌, ◌^◌}
use Rattle.rings.specs.Cells.{cell, word}

abbrev pub coefficient : ℕ → ℕ → ℕ
coefficient p i = p / 2 ^ i % 2

unfoldable pub total : ℕ → (ℕ → ℕ) → ℕ
total zero f = 0
total (suc m) f = total m f + f (suc m)

abbrev pub feedback : ℕ → ℕ → ℕ → ℕ
feedback p n s = total n (λ i. coefficient p (n - i) * cell n s i)

-- cell 0 lies outside
unfoldable pub register_cell : ℕ → ℕ → ℕ → ℕ → ℕ
register_cell p n s zero = 0
register_cell p n s (suc zero) = feedback p n s % 2
register_cell p n s (suc (suc k)) = cell n s (suc k)

unfoldable pub register_next : ℕ → ℕ → ℕ → ℕ
register_next p n s = word n (register_cell p n s)

unfoldable pub taps : ℕ → ℕ → ℕ
taps p n = word n (λ i. coefficient p (n - i))
