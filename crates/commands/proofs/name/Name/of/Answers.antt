use Rattle.std.proofs.Common.{codes, sym, ap, rules, arith}
use Rattle.std.proofs.lemmas.Slice.Eq.{text_from_reads}
use Rattle.commands.specs.Commands.{name_of}
use Rattle.commands.proofs.name.Name.of.Goals as goal

pub returns-in-pattern : goal.returns-in-pattern
returns-in-pattern c = ap name_of (sym (text_from_reads c.args.word.now (codes "pattern") (omega arith) (search rules)))

pub returns-in-multiply : goal.returns-in-multiply
returns-in-multiply c = ap name_of (sym (text_from_reads c.args.word.now (codes "multiply") (omega arith) (search rules)))

pub returns-in-register : goal.returns-in-register
returns-in-register c = ap name_of (sym (text_from_reads c.args.word.now (codes "register") (omega arith) (search rules)))
