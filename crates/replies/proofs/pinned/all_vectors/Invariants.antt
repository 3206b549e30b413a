use Rattle.std.proofs.Common.{◌≡◌, ◌-◌, ◌++◌, length, vec_items}
use Rattle.search.specs.Views.{view, fitting}
use Rattle.replies.proofs.pinned.all_vectors.Given as goal

abbrev pub invariant-loop-vector : goal.invariant-loop-vector
invariant-loop-vector l =
    ((view l.initial.search).given ++ vec_items l.vectors ≡ (view l.search).given) × (fitting (view l.search) ≡ fitting (view l.initial.search))

abbrev pub decreases-loop-vector : goal.decreases-loop-vector
decreases-loop-vector l = length (fitting (view l.search)) - length (view l.search).given
