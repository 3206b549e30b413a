-- An equation of its two parts, so that equations are equal where their parts are.
use Rattle.std.specs.Prelude.{ℕ}
use Rattle.search.specs.declared.equations.Equation.{Equation}

abbrev pub made_of : ℕ → ℕ → Equation
made_of word bit = record { word = word; bit = bit }
