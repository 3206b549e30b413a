use Rattle.std.proofs.Common.{◌≡◌}
use Rattle.rings.specs.Cells.{ring_next}
use Rattle.generators.specs.Generators.{iterate}
use Rattle.timed.proofs.stepped.Given as goal

abbrev pub invariant-loop-i : goal.invariant-loop-i
invariant-loop-i l =
    (l.ring.vector ≡ l.initial.ring.vector)
    × (l.ring.state ≡ iterate (ring_next l.initial.ring.vector.cells l.initial.ring.vector.rules) l.i l.initial.ring.state)
