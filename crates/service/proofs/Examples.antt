-- The table of examples: its rows are computed, all at once, and what is computed of a row makes it hold.
use Rattle.std.proofs.Common.{◌≡◌, ℕ, suc, ◌/◌, ◌^◌, Bool, cond, eqb, List, [], ◌∷◌, map, length, take, filter, refl, ap, ◌∙◌, ap₂}
use Rattle.std.specs.List.{AllByRecursion}
use Rattle.gf2.specs.Algebra.{act, product}
use Rattle.rings.specs.Cells.{cell, word, ring_next}
use Rattle.rings.specs.Vectors.{recurrence, recurrence_from}
use Rattle.rings.proofs.Recurrence.{polynomial_recurrence}
use Rattle.generators.specs.Generators.{Meaning, iterate}
use Rattle.generators.specs.Registers.{total, register_cell, register_next}
use Rattle.runs.specs.Runs.{History, history, Right}
use Rattle.search.specs.Lists.{from_on, has, vectors_below, full_list, fits, fitting_list}
use Rattle.search.specs.Views.{fitting}
use Rattle.service.specs.declared.searches.Call.{Call}
use Rattle.service.specs.Searches.{Answered, pins_left, given, view_after, answer_by, SearchLaw}
use Rattle.service.specs.Examples.{Example, listed, answered, shown, Shows, Holds, table, Examples}
use Rattle.service.proofs.Answered.{right_by}

module _ {A : Type 0} where
  head_same : {x y : A} {xs ys : List A} → x ∷ xs ≡ y ∷ ys → x ≡ y
  head_same e = cc

  tail_same : {x y : A} {xs ys : List A} → x ∷ xs ≡ y ∷ ys → xs ≡ ys
  tail_same e = cc

-- ---- the full list by the recurrence, which is computed more cheaply than the determinant

list_of : ℕ → ℕ → List ℕ
list_of p n = filter (λ v. eqb (recurrence n v) p) (from_on 0 (2 ^ n))

kept_alike : (f g : ℕ → Bool) → ((x : ℕ) → f x ≡ g x) → (xs : List ℕ) → filter f xs ≡ filter g xs
kept_alike f g same [] = refl
kept_alike f g same (x ∷ xs) = ap₂ (λ (b : Bool) (r : List ℕ). cond b (x ∷ r) r) (same x) (kept_alike f g same xs)

list_is : (p n : ℕ) → full_list n p ≡ list_of p n
unfolding full_list vectors_below has list_of
list_is p n = kept_alike (has n p) (λ v. eqb (recurrence n v) p) (λ v. ap (λ (z : ℕ). eqb z p) (polynomial_recurrence n v)) (from_on 0 (2 ^ n))

-- ---- what is computed of a row, and what it has to be

-- numbers, lists of numbers, and answers
abbrev Outcome : Type 0
Outcome = List ℕ × List (List ℕ) × List Answered

module _ (p n : ℕ) (vs : List ℕ) where
  abbrev fitting_after : History Call Answered → List ℕ
  fitting_after h = filter (fits (pins_left h)) vs

  -- the first ones of the fitting list before each call, as many as were given, and the answer to the call
  abbrev firsts : History Call Answered → List (List ℕ)
  firsts [] = []
  firsts (e ∷ h) = take (length (given h)) (fitting_after h) ∷ firsts h

  abbrev answers_by : History Call Answered → List Answered
  answers_by [] = []
  answers_by (e ∷ h) = answer_by (fitting_after h) (view_after p n h) e.0 ∷ answers_by h

abbrev givens : History Call Answered → List (List ℕ)
givens [] = []
givens (e ∷ h) = given h ∷ givens h

abbrev told : History Call Answered → List Answered
told [] = []
told (e ∷ h) = e.1 ∷ told h

-- step by step
abbrev walk : Meaning → ℕ → List ℕ → List ℕ
walk m s [] = []
walk m s (x ∷ ps) = m.shown s ∷ walk m (m.next s) ps

abbrev computed : Example → Outcome
computed (listed p n vs) = (p / 2 ^ n ∷ list_of p n, [], [])
computed (answered p n cs rs) = (p / 2 ^ n ∷ length rs ∷ [], firsts p n (list_of p n) (history cs rs), answers_by p n (list_of p n) (history cs rs))
computed (shown m w ps) = (walk m w ps, [], [])

abbrev expected : Example → Outcome
expected (listed p n vs) = (1 ∷ vs, [], [])
expected (answered p n cs rs) = (1 ∷ length cs ∷ [], givens (history cs rs), told (history cs rs))
expected (shown m w ps) = (ps, [], [])

-- ---- a row for which they are the same holds

module _ (p n : ℕ) (is : full_list n p ≡ list_of p n) where
  fitting_is : (h : History Call Answered) → fitting (view_after p n h) ≡ fitting_after p n (list_of p n) h
  unfolding fitting_list
  fitting_is h = ap (filter (fits (pins_left h))) is

  right_rows : (h : History Call Answered) → firsts p n (list_of p n) h ≡ givens h → answers_by p n (list_of p n) h ≡ told h → Right (SearchLaw p n) h
  right_rows [] e f = tt
  right_rows (x ∷ h) e f =
      (right_by (view_after p n h) (fitting_after p n (list_of p n) h) (fitting_is h) (head_same e) x.0 x.1 (head_same f), right_rows h (tail_same e) (tail_same f))

shows_rows : (m : Meaning) (w c : ℕ) (ps : List ℕ) → walk m (iterate m.next c w) ps ≡ ps → Shows m w c ps
unfolding iterate
shows_rows m w c [] e = tt
shows_rows m w c (x ∷ ps) e = (head_same e, shows_rows m w (suc c) ps (tail_same e))

holds : (e : Example) → computed e ≡ expected e → Holds e
unfolding iterate
holds (listed p n vs) e = (head_same (ap (λ z. z.0) e), list_is p n ∙ tail_same (ap (λ z. z.0) e))
holds (answered p n cs rs) e = (
  head_same (ap (λ z. z.0) e),
  record { all = head_same (tail_same (ap (λ z. z.0) e)); right = right_rows p n (list_is p n) (history cs rs) (ap (λ z. z.1) e) (ap (λ z. z.2) e) },
)
holds (shown m w ps) e = shows_rows m w 0 ps (ap (λ z. z.0) e)

all_hold : (es : List Example) → map computed es ≡ map expected es → AllByRecursion Holds es
all_hold [] e = tt
all_hold (x ∷ es) e = (holds x (head_same e), all_hold es (tail_same e))

-- ---- all rows at once

test : map computed table ≡ map expected table
unfolding table list_of recurrence recurrence_from product act from_on fits ring_next register_next register_cell total cell word
test = refl

pub examples : Examples
examples = all_hold table test
