use Rattle.std.proofs.Common.{◌≤◌, [], length, vec_items}
use Rattle.runs.proofs.Turns.{Carries, Sofar}
use Rattle.runs.proofs.perform_all.Given as goal

abbrev pub invariant-loop-call : goal.invariant-loop-call
invariant-loop-call g l =
    let p = g.P.Performer in
    (l.call-index ≤ length l.calls)
    × Carries (p.law l.performer) (p.law l.initial.performer)
    × (p.tied l.initial.performer [] → Sofar (p.law l.initial.performer) (p.tied l.performer) l.calls l.call-index (vec_items l.answers))
