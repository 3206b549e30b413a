use Rattle.rig.specs.Held.{view}
use Rattle.rig.proofs.Moves.{stands_moved}
use Rattle.rig.proofs.rig.Rig.jump.Goals as goal

pub returns-clause-stands : goal.returns-clause-stands
returns-clause-stands g c = λ stands.
    rw (c.jump.ensures.same, c.jump.ensures.after, c.in_ok-clock.ensures.1)
    (stands_moved (view g.G.Generator.meaning g.G.Generator.state c.args.self.now) c.args.length stands)
