use Rattle.console.proofs.Lines.{Goes}
use Rattle.console.proofs.answering.answer_lines.Given as goal

abbrev pub invariant-loop-number : goal.invariant-loop-number
invariant-loop-number g l = Goes g.A.Answering.text (g.R.Read.remaining l.fn.input) (g.W.Write.contents l.fn.output) l.number (g.R.Read.remaining l.input) (g.W.Write.contents l.output)
