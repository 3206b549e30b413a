use Rattle.std.proofs.Common.{ℕ, subst}
use Rattle.search.specs.Lists.{Of, Candidate}
use Rattle.search.proofs.Wanted.{undone}
use Rattle.search.proofs.candidates.Candidates.vector.Goals as goal

pub returns : goal.returns
returns c =
    let m = c.args.self.now.modulus in
    subst (λ (y : ℕ). Candidate (Of m.degree m.polynomial) m.degree y c.then_some.result) c.word.ensures
    (rw c.then_some.ensures
    (undone m.degree m.polynomial c.word.result c.undo-vector.result c.undo-vector.ensures c.has_polynomial.result c.has_polynomial.ensures))
