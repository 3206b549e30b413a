use Rattle.rings.proofs.Degrees.{Pair}
use Rattle.rings.proofs.vector.RuleVector.polynomial.Given as goal

abbrev pub invariant-loop-k : goal.invariant-loop-k
invariant-loop-k l = Pair l.self.rules l.k l.before l.current
