-- Pins one after the other.
use Rattle.std.proofs.Common.{◌≡◌, ℕ, ◌^◌, ◌<◌, ◌≤◌, List, [], ◌∷◌, ◌++◌, Some, sym, refl, ap, ◌∙◌}
use Rattle.search.specs.Views.{View, fitting, Opened, with_pin}
use Rattle.requests.specs.declared.call.Pin.{Pin}
use Rattle.replies.specs.Vectors.{fresh_search, with_pins, pinned_search}
use Rattle.commands.proofs.Degrees.{top_bit_is}

pub opened_fresh : (p : ℕ) (w : View) → p < 2 ^ 32 → 1 ≤ w.cells → Opened p w → w ≡ fresh_search p
opened_fresh p w small some o =
    let cells = top_bit_is p w.cells small some o.degree in
    λ i. record { polynomial = o.polynomial i; cells = cells i; pins = o.pins i; given = o.given i; running = o.running i }

-- pins give nothing
with_pins_given : (w : View) (qs : List Pin) → (with_pins w qs).given ≡ w.given
with_pins_given w [] = refl
with_pins_given w (q ∷ qs) = with_pins_given (with_pin w q.cell (Some q.value)) qs

-- all that a search with pins gives
pub all_fitting : (p : ℕ) (qs : List Pin) (w : View) (vs : List ℕ) → w ≡ pinned_search p qs → w.given ++ vs ≡ fitting w → vs ≡ fitting (pinned_search p qs)
all_fitting p qs w vs is e =
    ap (λ (g : List ℕ). g ++ vs) (sym (ap (λ (z : View). z.given) is ∙ with_pins_given (fresh_search p) qs)) ∙ e ∙ ap fitting is
