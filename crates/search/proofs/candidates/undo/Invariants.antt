use Rattle.std.proofs.Common.{◌≡◌, ℕ, ◌^◌, ◌<◌}
use Rattle.rings.specs.Vectors.{recurrence, recurrence_from}
use Rattle.search.proofs.Undone.{Undone}
use Rattle.search.proofs.candidates.undo.Given as goal

abbrev pub invariant-loop-k : goal.invariant-loop-k
invariant-loop-k l =
    (v : ℕ) → v < 2 ^ l.fn.modulus.degree → recurrence l.fn.modulus.degree v ≡ l.fn.modulus.polynomial → recurrence_from l.fn.modulus.degree v ≡ l.y
    → Undone v l.k l.above l.below l.vector
