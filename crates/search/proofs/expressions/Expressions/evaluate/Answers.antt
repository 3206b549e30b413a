use Rattle.std.proofs.Common.{◌∙◌, rules, arith}
use Rattle.std.proofs.lemmas.Iterator.Consumers.{fold_from_yields_List}
use Rattle.std.proofs.lemmas.Iterator.Adapters.{YieldsList-from_rev_slice}
use Rattle.search.specs.Systems.{value}
use Rattle.search.proofs.Systems.{value_below}
use Rattle.search.proofs.Words.{pushed, folded}
use Rattle.search.proofs.expressions.Expressions.evaluate.Goals as goal

pub returns : goal.returns
returns c =
    let es = c.args.self.now.bits in
    fold_from_yields_List _ (pushed (λ e. value e c.args.m)) 0 c.fold.result c.fold.ensures.ran (YieldsList-from_rev_slice es (search rules)) (λ a x b q k. search rules)
    ∙ folded (λ e. value e c.args.m) (λ e. value_below e c.args.m) es (omega arith)
