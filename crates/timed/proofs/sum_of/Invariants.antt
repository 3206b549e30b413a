use Rattle.std.proofs.Common.{◌≡◌, ◌-◌, [], length, fold}
use lib.Bits.{bit_xor}
use Rattle.search.specs.Views.{view, fitting}
use Rattle.timed.proofs.sum_of.Given as goal

abbrev pub invariant-loop-vector : goal.invariant-loop-vector
invariant-loop-vector l =
    ((view l.initial.search).given ≡ [] → l.sum ≡ fold bit_xor 0 (view l.search).given) × (fitting (view l.search) ≡ fitting (view l.initial.search))

abbrev pub decreases-loop-vector : goal.decreases-loop-vector
decreases-loop-vector l = length (fitting (view l.search)) - length (view l.search).given
