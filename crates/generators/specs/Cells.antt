-- What rings and registers share: the state 0 has no cell at 1, and a rule that shows the cells is linear.
use Rattle.std.specs.Prelude.{◌≡◌, ℕ, refl}
use Rattle.gf2.proofs.Sums.{additive_zero}
use Rattle.rings.specs.Cells.{cell}
use Rattle.rings.proofs.Cells.{cell_sum}
use Rattle.generators.specs.Generators.{Linear}

pub cell_of_zero : (n k : ℕ) → cell n 0 k ≡ 0
cell_of_zero n k = additive_zero (λ s. cell n s k) (λ s t. cell_sum n s t k)

pub all_shown : (n : ℕ) → Linear n (λ s. s)
all_shown n = record { below = λ s h. h; sum = λ s t h k. refl }
