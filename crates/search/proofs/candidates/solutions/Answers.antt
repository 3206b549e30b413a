use Rattle.std.proofs.Common.{ℕ, subst}
use Rattle.search.specs.Systems.{Solved, Unsolvable}
use Rattle.search.proofs.Completeness.{complete_none, complete_some}
use Rattle.search.proofs.candidates.solutions.Goals as goal

pub returns-in-Some : goal.returns-in-Some
returns-in-Some c =
    let m = c.args.modulus in
    let system = c.of.result in
    complete_some m.polynomial m.degree m.high system.columns c.of.ensures.columns c.of-in-Some.result c.in-Some.expressions.bits
    (subst (λ (w : ℕ). Solved 32 system.columns w 64 c.in-Some.expressions.bits) c.of.ensures.constant c.in-Some.ensures) c.of-in-Some.ensures

pub returns-in-None : goal.returns-in-None
returns-in-None c =
    let m = c.args.modulus in
    let system = c.of.result in
    complete_none m.polynomial m.degree m.high system.columns c.of.ensures.columns c.empty.result (subst (λ (w : ℕ). Unsolvable 32 system.columns w) c.of.ensures.constant c.in-None.ensures)
