use Rattle.std.proofs.Common.{◌≡◌, ℕ, ◌-◌, List, ◌++◌, length, take, drop, string_bytes, ap, ◌∙◌, rules}
use Rattle.replies.proofs.Joined.{later, joined_all}
use Rattle.replies.proofs.told.joined.Goals as goal

pub returns : goal.returns
returns g c = λ show h.
    let sep = c.args.separator.now in
    let items = c.args.items.now in
    let rest = take (length items - 1) (drop 1 items) in
    let first = c.first-item.result in
    let told : string_bytes c.in_ok-text.text ≡ show first = rw (h first) at c.in_ok-text.ensures.ok in
    c.loop-item.invariant show h ∙ ap (λ (l : List ℕ). l ++ later show sep (take c.loop-item.item-index rest)) told
    ∙ joined_all show sep items first c.loop-item.item-index (search rules) c.first-item.is c.loop-item-test.false
