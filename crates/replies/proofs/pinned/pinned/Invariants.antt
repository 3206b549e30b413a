use Rattle.std.proofs.Common.{◌≡◌, drop}
use Rattle.search.specs.Views.{view}
use Rattle.replies.specs.Vectors.{vectors_refusal, pinned_search, pins_refusal, with_pins}
use Rattle.replies.proofs.pinned.pinned.Given as goal

-- the pins that are left, on the search as it is, ask and set what all pins do
abbrev pub invariant-loop-pin : goal.invariant-loop-pin
invariant-loop-pin l =
    (pins_refusal (view l.search) (drop l.pin-index l.pins) ≡ vectors_refusal l.polynomial l.pins)
    × (with_pins (view l.search) (drop l.pin-index l.pins) ≡ pinned_search l.polynomial l.pins)
