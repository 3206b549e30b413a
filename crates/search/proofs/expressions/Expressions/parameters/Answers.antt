use Rattle.std.proofs.Common.{◌≡◌, ℕ, ◌^◌, ◌<◌, rules, arith}
use Rattle.std.proofs.lemmas.Nat.{one_shl}
use Rattle.search.specs.declared.equations.Equation.{Equation}
use Rattle.search.proofs.Made.{made}
use Rattle.search.proofs.Systems.{parameters}
use Rattle.search.proofs.expressions.Expressions.parameters.Goals as goal

pub returns : goal.returns
returns c =
    parameters c.from_fn.result c.from_fn.ensures.items.long
    (λ j h. made _ _ (λ (j : ℕ) (e : Equation). j < 32 → e ≡ record { word = 2 ^ j; bit = 0 }) (λ i y q k. (search rules, λ l. search (rules, one_shl i 32 l)))
    c.from_fn.result 32 0 c.from_fn.ensures.items.each j (record { word = 0; bit = 0 }) (omega arith) h h)
