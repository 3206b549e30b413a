-- The law of a search's runs. It speaks of calls and answers alone: which pins the accepted calls have left, and which
-- vectors were given since the opening or the last rewind. A history has its newest call first.
--
--   Answered             == an answer, or the refusal
--   set_by c pins        == the pins after the accepted call c
--   pins_left h          == the pins that the accepted pin and unpin calls have left; none at the opening
--   given_by a           == the vector that the answer a gives, if it gives one
--   given h              == the vectors given since the opening or the last rewind, in their order
--   running h            == whether next was called since the opening or the last rewind
--   view_after p n h     == a search on p, of degree n, after the history h
--   NextRight w a        == next gives the first vector of the fitting list that was not given since then, or refuses
--                           because all of them were
--   RightAfter w c a     == a is the right answer to the call c at w
--   SearchLaw p n        == each answer is the right one after what came before it
--   answer_by vs w c     == the answer to the call c at w, where vs is the fitting list
--   right_answer p n h c == the only right answer to the call c after the history h
use Rattle.std.specs.Prelude.{◌≡◌, ℕ, ◌-◌, Bool, true, false, List, [], ◌∷◌, ◌++◌, length, drop, replicate, Some, None, Ok, Err, Option, Result, slice_set, option_to_list}
use Rattle.rings.specs.declared.refusal.Refusal.{Refusal}
use Rattle.rings.specs.declared.refusal.Refusal.TheVariants.{NoVectorLeft}
use Rattle.rings.specs.Questions.{refused_or}
use Rattle.runs.specs.Runs.{Law, History}
use Rattle.search.specs.Views.{View, fitting, pin_refusal, unpin_refusal}
use Rattle.service.specs.declared.searches.Call.{Call}
use Rattle.service.specs.declared.searches.Call.TheVariants as call
use Rattle.service.specs.declared.searches.Answer.{Answer}
use Rattle.service.specs.declared.searches.Answer.TheVariants as answer

abbrev pub Answered : Type 0
Answered = Result Answer Refusal

-- a pin that was accepted, and one that was removed
abbrev pub set_by : Call → List (Option ℕ) → List (Option ℕ)
set_by (call.Pin cell value) pins = slice_set pins (cell - 1) (Some value)
set_by (call.Unpin cell) pins = slice_set pins (cell - 1) None
set_by call.Count pins = pins
set_by call.Next pins = pins
set_by call.Rewind pins = pins

abbrev pub pins_after : Call → Answered → List (Option ℕ) → List (Option ℕ)
pins_after c (Ok answer.Done) pins = set_by c pins
pins_after c (Ok (answer.Count k)) pins = pins
pins_after c (Ok (answer.Vector v)) pins = pins
pins_after c (Err q) pins = pins

abbrev pub pins_left : History Call Answered → List (Option ℕ)
pins_left [] = replicate 31 None
pins_left (e ∷ h) = pins_after e.0 e.1 (pins_left h)

abbrev pub given_by : Answered → Option ℕ
given_by (Ok answer.Done) = None
given_by (Ok (answer.Count k)) = None
given_by (Ok (answer.Vector v)) = Some v
given_by (Err q) = None

-- only a next gives vectors, and a rewind forgets them
abbrev pub given_after : Call → Answered → List ℕ → List ℕ
given_after (call.Pin cell value) a vs = vs
given_after (call.Unpin cell) a vs = vs
given_after call.Count a vs = vs
given_after call.Next a vs = vs ++ option_to_list (given_by a)
given_after call.Rewind a vs = []

abbrev pub given : History Call Answered → List ℕ
given [] = []
given (e ∷ h) = given_after e.0 e.1 (given h)

abbrev pub running_after : Call → Bool → Bool
running_after (call.Pin cell value) r = r
running_after (call.Unpin cell) r = r
running_after call.Count r = r
running_after call.Next r = true
running_after call.Rewind r = false

abbrev pub running : History Call Answered → Bool
running [] = false
running (e ∷ h) = running_after e.0 (running h)

abbrev pub view_after : ℕ → ℕ → History Call Answered → View
view_after p n h = record { polynomial = p; cells = n; pins = pins_left h; given = given h; running = running h }

abbrev pub NextRight : View → Answered → Type 0
NextRight w (Ok answer.Done) = ⊥
NextRight w (Ok (answer.Count k)) = ⊥
NextRight w (Ok (answer.Vector v)) = (rest : List ℕ) × (fitting w ≡ w.given ++ (v ∷ rest))
NextRight w (Err q) = (q ≡ NoVectorLeft) × (w.given ≡ fitting w)

abbrev pub RightAfter : View → Call → Answered → Type 0
RightAfter w (call.Pin cell value) a = a ≡ refused_or (pin_refusal w cell value) answer.Done
RightAfter w (call.Unpin cell) a = a ≡ refused_or (unpin_refusal w cell) answer.Done
RightAfter w call.Count a = a ≡ Ok (answer.Count (length (fitting w)))
RightAfter w call.Next a = NextRight w a
RightAfter w call.Rewind a = a ≡ Ok answer.Done

abbrev pub SearchLaw : ℕ → ℕ → Law Call Answered
SearchLaw p n = λ h c a. RightAfter (view_after p n h) c a

-- the first of the vectors that are left
abbrev pub next_answer : List ℕ → Answered
next_answer [] = Err NoVectorLeft
next_answer (v ∷ rest) = Ok (answer.Vector v)

abbrev pub answer_by : List ℕ → View → Call → Answered
answer_by vs w (call.Pin cell value) = refused_or (pin_refusal w cell value) answer.Done
answer_by vs w (call.Unpin cell) = refused_or (unpin_refusal w cell) answer.Done
answer_by vs w call.Count = Ok (answer.Count (length vs))
answer_by vs w call.Next = next_answer (drop (length w.given) vs)
answer_by vs w call.Rewind = Ok answer.Done

abbrev pub right_answer : ℕ → ℕ → History Call Answered → Call → Answered
right_answer p n h c = answer_by (fitting (view_after p n h)) (view_after p n h) c
