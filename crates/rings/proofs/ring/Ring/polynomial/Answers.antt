use Rattle.std.proofs.Common.{sym, refl, ◌∙◌}
use Rattle.rings.proofs.Recurrence.{polynomial_recurrence}
use Rattle.rings.proofs.ring.Ring.polynomial.Goals as goal

pub returns : goal.returns
returns c =
    let ring = c.args.self.now in
    record { value = refl; own = ring.own ∙ sym (polynomial_recurrence ring.vector.cells ring.vector.rules) }
