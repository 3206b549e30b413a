use Rattle.std.proofs.Common.{codes, sym, ap, ◌∙◌, rules, arith}
use Rattle.std.proofs.lemmas.Slice.Eq.{text_from_reads}
use Rattle.commands.specs.Commands.{more_layers}
use Rattle.commands.proofs.command.Layers.with.Goals as goal

pub returns-in-doubler : goal.returns-in-doubler
returns-in-doubler c =
    search rules ∙ ap (more_layers c.args.self) (sym (text_from_reads c.args.word.now (codes "doubler") (omega arith) (search rules)))
