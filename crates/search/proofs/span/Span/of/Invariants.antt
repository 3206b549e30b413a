use Rattle.search.proofs.Spans.{Spans}
use Rattle.search.proofs.span.Span.of.Given as goal

abbrev pub invariant-loop-j : goal.invariant-loop-j
invariant-loop-j l = Spans l.expressions.bits l.base l.j l.dimension l.directions
