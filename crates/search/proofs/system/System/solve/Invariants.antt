use Rattle.search.specs.Systems.{Solved}
use Rattle.search.proofs.system.System.solve.Given as goal

-- the first k equations are taken in
abbrev pub invariant-loop-k : goal.invariant-loop-k
invariant-loop-k l = Solved 32 l.self.columns l.self.constant l.k l.expressions.bits
