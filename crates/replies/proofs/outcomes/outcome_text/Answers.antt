use Rattle.std.proofs.Common.{decimal, refl}
use Rattle.rig.specs.Texts.{answer_text as rig_text}
use Rattle.service.specs.Texts.{answer_text as search_text}
use Rattle.replies.proofs.outcomes.outcome_text.Goals as goal

pub returns : goal.returns
returns c =
    let search = c.in_ok-search.ensures search_text (λ a. refl) in
    let rig = c.in_ok-rig.ensures rig_text (λ a. refl) in
    let rings = c.in_ok-rings.ensures (λ r. decimal r.vector.rules) (λ r. refl) in
    rw (search, rig, rings, c.as_slice.ensures.value, c.as_slice-2.ensures.value, c.as_slice-3.ensures.value) at c.format.ensures.ok
