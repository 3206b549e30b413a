use Rattle.std.proofs.Common.{length}
use Rattle.generators.specs.Orbits.{Walked}
use Rattle.generators.proofs.jumps.keep_states.Given as goal

abbrev pub invariant-loop-state : goal.invariant-loop-state
invariant-loop-state g l =
    let t = g.G.Generator in
    Walked (length l.initial.states) (t.meaning l.initial.g) (t.meaning l.g) (t.state l.initial.g) (t.state l.g) l.state-index l.states
