use Rattle.std.proofs.Common.{vec_items, ap, ◌∙◌, arith}
use Rattle.std.specs.Io.BufRead.{strip_last}
use Rattle.console.proofs.Lines.{goes_on}
use Rattle.console.proofs.answering.answer_lines.Goals as goal

pub loop-number-preserved : goal.loop-number-preserved
loop-number-preserved g c =
    goes_on g.A.Answering.text (g.R.Read.remaining c.args.input.now) (g.W.Write.contents c.args.output.now) c.loop-number.number _ _ _ _ _ (vec_items c.read_until.new.buf) _
    c.new-line.ensures.items (grind arith) c.in_ok-read_until.ensures.bytes (c.without_end.ensures ∙ ap (strip_last 10) c.deref.ensures.value)
    c.in_ok-read_until.ensures.rest c.in_ok-answer_line.ensures c.loop-number.invariant
