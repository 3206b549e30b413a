use Rattle.std.proofs.Common.{codes, sym, ap, rules, arith}
use Rattle.std.proofs.lemmas.Slice.Eq.{text_from_reads}
use Rattle.requests.specs.Names.{name_of}
use Rattle.requests.proofs.name.Name.of.Goals as goal

pub returns-in-vectors : goal.returns-in-vectors
returns-in-vectors c = ap name_of (sym (text_from_reads c.args.word.now (codes "vectors") (omega arith) (search rules)))
