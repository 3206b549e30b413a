use Rattle.std.proofs.Common.{◌+◌, take, Some, sym, ap, ◌∙◌}
use Rattle.std.proofs.lemmas.List.{take_rest}
use Rattle.std.specs.Option.{option_map}
use Rattle.words.proofs.Cuts.{no_sign, at_sign}
use Rattle.words.proofs.words.halves.Goals as goal

pub returns-in_err-sign : goal.returns-in_err-sign
returns-in_err-sign c = ap (option_map (λ h. (h.0.now, h.1.now))) c.from_residual.ensures ∙ no_sign c.args.word.now (sym c.place_of.ensures ∙ c.in_err-sign.was)

pub returns : goal.returns
returns c =
    let word = c.args.word.now in
    let sign = c.in_ok-sign.sign in
    ap (λ r. Some (take sign word, r)) (take_rest word (sign + 1)) ∙ at_sign word sign (sym c.place_of.ensures ∙ c.in_ok-sign.was)
