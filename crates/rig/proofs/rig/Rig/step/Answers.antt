use Rattle.std.proofs.Common.{rules}
use Rattle.rig.specs.Held.{view}
use Rattle.rig.proofs.Moves.{stands_stepped}
use Rattle.rig.proofs.rig.Rig.step.Goals as goal

-- The step itself is not named: search finds what it promises, so that a body without it fails at the fact.
pub returns-clause-stands : goal.returns-clause-stands
returns-clause-stands g c = λ stands.
    stands_stepped (view g.G.Generator.meaning g.G.Generator.state c.args.self.now) _ _ _ (search rules) c.in_ok-clock.ensures.1 (search rules) stands
