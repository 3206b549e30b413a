use Rattle.std.proofs.Common.{ℕ, List, map, vec_items, string_bytes, codes, decimal, refl, sym, ◌∙◌, ap₂}
use Rattle.search.specs.Views.{view}
use Rattle.commands.specs.Replies.{said}
use Rattle.replies.specs.Texts.{joined}
use Rattle.replies.proofs.Searched.{all_fitting}
use Rattle.replies.proofs.Texts.{made_as}
use Rattle.replies.proofs.pinned.vectors_text.Goals as goal

pub returns-in_ok-vectors-in-Ok : goal.returns-in_ok-vectors-in-Ok
returns-in_ok-vectors-in-Ok c =
    let pinned = c.in-Ok.ensures in
    let found = all_fitting c.args.polynomial c.args.pins.now (view c.in-Ok.search) (vec_items c.in_ok-vectors-in-Ok.vectors) pinned.1 c.in_ok-vectors-in-Ok.ensures in
    made_as c.joined.result string_bytes (ap₂ (λ q (l : List ℕ). said q (joined (codes " ") (map decimal l))) (sym pinned.0) (c.as_slice.ensures.value ∙ found))
    (c.joined.ensures decimal (λ x. refl))
