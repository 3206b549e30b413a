use Rattle.std.proofs.Common.{codes, sym, ap, rules, arith}
use Rattle.std.proofs.lemmas.Slice.Eq.{text_from_reads}
use Rattle.requests.specs.Calls.{named}
use Rattle.requests.proofs.call.named.Goals as goal

pub returns-in-rewind : goal.returns-in-rewind
returns-in-rewind c = ap named (sym (text_from_reads c.args.word.now (codes "rewind") (omega arith) (search rules)))
