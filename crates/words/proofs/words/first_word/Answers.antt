use Rattle.std.proofs.Common.{◌≡◌, not, ◌∷◌, sym, ap₂, ◌∙◌, rules, tests}
use Rattle.std.specs.Bool.{◌==◌}
use Rattle.std.specs.List.{position}
use Rattle.std.proofs.lemmas.List.{take_rest}
use Rattle.std.proofs.lemmas.Iterator.{YieldsList-from_slice}
use Rattle.std.proofs.lemmas.Iterator.Search.{position_from_yields_List}
use Rattle.words.specs.Words.{space, words}
use Rattle.words.proofs.Cuts.{no_word, cut_word}
use Rattle.words.proofs.words.first_word.Goals.{After-position}
use Rattle.words.proofs.words.first_word.Goals as goal

-- the line's first byte other than a space
start_is : (c : After-position) → c.position.result ≡ position (λ b. not (b == space)) c.args.line.now
start_is c = position_from_yields_List (λ b. not (b == space)) _ _ c.position.result c.position.ensures.ran (YieldsList-from_slice _ c.iter.ensures.rest) (λ x b q k. search (rules, tests))

pub returns-in_err-start : goal.returns-in_err-start
returns-in_err-start c =
    let none = no_word c.args.line.now (sym (start_is (goal.at.returns-in_err-start c).After-position) ∙ c.in_err-start.was) in
    search (rules, none)

pub returns : goal.returns
returns c =
    cut_word c.args.line.now _ c.in_ok-start.start c.unwrap_or-end.result c.place_of.result (sym (start_is (goal.at.returns c).After-position) ∙ c.in_ok-start.was)
    (take_rest c.args.line.now _) c.place_of.ensures c.unwrap_or-end.ensures
    ∙ ap₂ (λ w r. w ∷ words r) (sym c.split_at.ensures.front) (sym c.split_at.ensures.back)
