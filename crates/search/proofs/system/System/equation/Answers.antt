use Rattle.std.proofs.Common.{◌≡◌, ◌/◌, ◌^◌, ap₂, ◌∙◌, rules, arith}
use lib.Bits.{and_mask}
use Rattle.std.proofs.lemmas.Iterator.Consumers.{fold_from_yields_List}
use Rattle.std.proofs.lemmas.Iterator.Adapters.{YieldsList-from_rev_slice}
use Rattle.search.specs.EquationLaws.{made_of}
use Rattle.search.specs.Systems.{coefficient, row}
use Rattle.search.proofs.Parities.{coefficient_below}
use Rattle.search.proofs.Words.{pushed, folded}
use Rattle.search.proofs.system.System.equation.Goals as goal

pub returns : goal.returns
returns c =
    let k = c.args.k in
    let columns = c.args.self.now.columns in
    let word : c.fold.result ≡ row columns k =
    fold_from_yields_List _ (pushed (λ a. coefficient a k)) 0 c.fold.result c.fold.ensures.ran (YieldsList-from_rev_slice columns (search rules)) (λ a x b q h. search (rules, and_mask (x.now / 2 ^ k) 1))
    ∙ folded (λ a. coefficient a k) (λ a. coefficient_below a k) columns (omega arith) in
    ap₂ made_of word (and_mask (c.args.self.now.constant / 2 ^ k) 1)
