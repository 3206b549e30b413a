use Rattle.std.proofs.Common.{arith, refl}
use Rattle.generators.specs.Orbits.{walked_none, walked_more}
use Rattle.generators.proofs.jumps.keep_states.Goals as goal

pub loop-state-init : goal.loop-state-init
loop-state-init g c = walked_none _ _ _ _ refl

pub loop-state-preserved : goal.loop-state-preserved
loop-state-preserved g c =
    walked_more _ _ _ _ _ _ _ c.loop-state.state-index _ c.loop-state.states c.loop-state.invariant (omega arith) (omega arith) c.step.ensures.same c.step.ensures.after
