use Rattle.rig.specs.Held.{view}
use Rattle.rig.proofs.Moves.{stands_loaded}
use Rattle.rig.proofs.rig.Rig.seed.Goals as goal

pub returns-clause-stands : goal.returns-clause-stands
returns-clause-stands g c =
    λ _. rw (c.in_ok-load.ensures.same, c.in_ok-load.ensures.after.1)
    (stands_loaded (view g.G.Generator.meaning g.G.Generator.state c.args.self.now) c.args.word)
