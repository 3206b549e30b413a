use Rattle.std.proofs.Common.{sym, ap, ◌∙◌, arith}
use Rattle.rings.specs.Questions.{else_asked}
use Rattle.search.specs.Views.{View, view}
use Rattle.replies.specs.Vectors.{fresh_search, pins_refusal, with_pins}
use Rattle.replies.proofs.Searched.{opened_fresh}
use Rattle.replies.proofs.pinned.pinned.Goals as goal

pub loop-pin-init : goal.loop-pin-init
loop-pin-init c =
    let p = c.args.polynomial in
    let qs = c.args.pins.now in
    let opened = c.in_ok-search.ensures.value in
    let fresh = opened_fresh p (view c.in_ok-search.search) (omega arith) c.in_ok-search.search.candidates.modulus.low opened.1 in (
      ap (λ (w : View). pins_refusal w qs) fresh ∙ ap (λ o. else_asked o (pins_refusal (fresh_search p) qs)) (sym opened.0),
      ap (λ (w : View). with_pins w qs) fresh,
    )
