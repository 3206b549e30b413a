-- What the command for the vectors of a polynomial asks for.
--
--   fresh_search p       == a search on p that was just opened
--   pins_refusal w qs    == the questions to the pins qs on the search w, one pin after the other
--   with_pins w qs       == w with these pins
--   vectors_refusal p qs == the questions to a polynomial and to pins
--   pinned_search p qs   == a search on p with the pins qs
--   vectors_text p qs    == all vectors of p that obey the pins, ascending, or the refusal
use Rattle.std.specs.Prelude.{ℕ, false, List, [], ◌∷◌, map, replicate, Some, None, codes, decimal, Option}
use Rattle.rings.specs.declared.refusal.Refusal.{Refusal}
use Rattle.rings.specs.Questions.{else_asked, polynomial_refusal}
use Rattle.search.specs.Views.{View, fitting, pin_refusal, with_pin}
use Rattle.requests.specs.declared.call.Pin.{Pin}
use Rattle.commands.specs.Patterns.{top_bit}
use Rattle.commands.specs.Replies.{said}
use Rattle.replies.specs.Texts.{joined}

abbrev pub fresh_search : ℕ → View
fresh_search p = record { polynomial = p; cells = top_bit p; pins = replicate 31 None; given = []; running = false }

abbrev pub pins_refusal : View → List Pin → Option Refusal
pins_refusal w [] = None
pins_refusal w (q ∷ qs) = else_asked (pin_refusal w q.cell q.value) (pins_refusal (with_pin w q.cell (Some q.value)) qs)

abbrev pub with_pins : View → List Pin → View
with_pins w [] = w
with_pins w (q ∷ qs) = with_pins (with_pin w q.cell (Some q.value)) qs

abbrev pub vectors_refusal : ℕ → List Pin → Option Refusal
vectors_refusal p qs = else_asked (polynomial_refusal p) (pins_refusal (fresh_search p) qs)

abbrev pub pinned_search : ℕ → List Pin → View
pinned_search p qs = with_pins (fresh_search p) qs

abbrev pub vectors_text : ℕ → List Pin → List ℕ
vectors_text p qs = said (vectors_refusal p qs) (joined (codes " ") (map decimal (fitting (pinned_search p qs))))
