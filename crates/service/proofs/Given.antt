-- What a search gives are vectors of its polynomial, and each makes a ring.
use Rattle.std.proofs.Common.{◌≡◌, ℕ, zero, suc, ◌+◌, ◌^◌, ◌<◌, ◌≤◌, true, List, [], ◌∷◌, ◌++◌, length, get_or, take, Some, None, Ok, Err, filter, Option, IfSome, option_to_list, sym, refl, ap, ◌∙◌, subst, ap₂, append-nil, arith, eqb-true}
use Rattle.std.specs.List.{AllByRecursion, cons_option}
use Rattle.std.proofs.ByRecursion.{all_kept_by, kept_by_passes}
use Rattle.std.proofs.lemmas.List.{take_more}
use Rattle.std.proofs.lemmas.List.Elements.{filter_map-append}
use Rattle.rings.specs.declared.refusal.Refusal.{Refusal}
use Rattle.rings.specs.declared.ring.Ring.{Ring}
use Rattle.rings.specs.Questions.{refused_or}
use Rattle.rings.specs.Vectors.{polynomial_of, recurrence}
use Rattle.rings.proofs.Recurrence.{polynomial_recurrence}
use Rattle.generators.specs.Rings.{ring_lawful}
use Rattle.runs.specs.Runs.{History, onto, Right, Obeys}
use Rattle.runs.proofs.Determined.{right_before}
use Rattle.search.specs.Lists.{from_on, has, vectors_below, full_list, fits, fitting_list, Of}
use Rattle.service.specs.declared.searches.Call.{Call}
use Rattle.service.specs.declared.searches.Call.TheVariants as call
use Rattle.service.specs.declared.searches.Answer.TheVariants as answer
use Rattle.service.specs.Searches.{Answered, given_by, SearchLaw}
use Rattle.service.specs.Promises.{vectors, Within, Made, RingOf, Rings}

-- ---- the fitting list holds vectors of the polynomial

below : (b a k : ℕ) → a + k ≤ b → AllByRecursion (λ v. v < b) (from_on a k)
unfolding from_on
below b a zero h = tt
below b a (suc k) h = (omega arith, below b (suc a) k (omega arith))

all_both : (P Q : ℕ → Type 0) (xs : List ℕ) → AllByRecursion P xs → AllByRecursion Q xs → AllByRecursion (λ x. P x × Q x) xs
all_both P Q [] p q = tt
all_both P Q (x ∷ xs) p q = ((p.0, q.0), all_both P Q xs p.1 q.1)

all_as : {X : Type 0} (P Q : X → Type 0) → ((x : X) → P x → Q x) → (xs : List X) → AllByRecursion P xs → AllByRecursion Q xs
all_as P Q f [] h = tt
all_as P Q f (x ∷ xs) h = (f x h.0, all_as P Q f xs h.1)

members : (n p : ℕ) (pins : List (Option ℕ)) → AllByRecursion (Of n p) (fitting_list n p pins)
unfolding fitting_list full_list vectors_below has
members n p pins =
    let all = from_on 0 (2 ^ n) in
    let passed = all_both (λ v. v < 2 ^ n) (λ v. has n p v ≡ true) (filter (has n p) all) (all_kept_by (has n p) (λ v. v < 2 ^ n) all (below (2 ^ n) 0 (2 ^ n) (omega arith))) (kept_by_passes (has n p) all) in
    all_kept_by (fits pins) (Of n p) (filter (has n p) all)
    (all_as (λ v. (v < 2 ^ n) × (has n p v ≡ true)) (Of n p) (λ v h. record { below = h.0; polynomial = eqb-true (polynomial_of n v) p h.1 }) (filter (has n p) all) passed)

inside : (P : ℕ → Type 0) (xs : List ℕ) (v : ℕ) (ys : List ℕ) → AllByRecursion P (xs ++ (v ∷ ys)) → P v
inside P [] v ys h = h.0
inside P (x ∷ xs) v ys h = inside P xs v ys h.1

-- ---- so does every answer of a run that obeys the law

module _ (p n : ℕ) where
  abbrev Gave : Answered → Type 0
  Gave a = IfSome (given_by a) (Of n p)

  gave_done : (q : Option Refusal) → Gave (refused_or q answer.Done)
  gave_done None = tt
  gave_done (Some q) = tt

  law_gives : (h : History Call Answered) (c : Call) (a : Answered) → SearchLaw p n h c a → Gave a
  law_gives h (call.Pin cell value) a r = subst Gave (sym r) (gave_done _)
  law_gives h (call.Unpin cell) a r = subst Gave (sym r) (gave_done _)
  law_gives h call.Count a r = subst Gave (sym r) tt
  law_gives h call.Rewind a r = subst Gave (sym r) tt
  law_gives h call.Next (Ok answer.Done) r = tt
  law_gives h call.Next (Ok (answer.Count k)) r = tt
  law_gives h call.Next (Err q) r = tt
  law_gives h call.Next (Ok (answer.Vector v)) r = inside (Of n p) _ v r.0 (subst (AllByRecursion (Of n p)) r.1 (members n p _))

  run_gives : (h : History Call Answered) (cs : List Call) (rs : List Answered) → length rs ≡ length cs → Right (SearchLaw p n) (onto h cs rs) → AllByRecursion Gave rs
  run_gives h cs [] e r = tt
  run_gives h [] (a ∷ rs) e r = absurd (omega arith)
  run_gives h (c ∷ cs) (a ∷ rs) e r =
      (law_gives h c a (right_before (SearchLaw p n) ((c, a) ∷ h) cs rs r).0, run_gives ((c, a) ∷ h) cs rs (omega arith) r)

  gives : (cs : List Call) (rs : List Answered) → Obeys (SearchLaw p n) cs rs → AllByRecursion Gave rs
  gives cs rs o = run_gives [] cs rs o.all o.right

  within_one : (o : Option ℕ) → IfSome o (Of n p) → IfSome o (λ v. v < 2 ^ n)
  within_one None g = tt
  within_one (Some v) g = g.below

  pub run_within : (cs : List Call) (rs : List Answered) → Obeys (SearchLaw p n) cs rs → AllByRecursion (Within n) rs
  run_within cs rs o = all_as Gave (Within n) (λ a. within_one (given_by a)) rs (gives cs rs o)

  -- ---- the rings

  ring_kept : (v : ℕ) (r : Ring) → Of n p v → r.vector.cells ≡ n → r.vector.rules ≡ v → RingOf p n v r
  ring_kept v r o cells rules =
      record {
        cells = cells;
        rules = rules;
        polynomial = r.own ∙ ap₂ recurrence cells rules ∙ sym (polynomial_recurrence n v) ∙ o.polynomial;
        lawful = ring_lawful r.vector.cells r.vector.rules r.polynomial r.own r.vector.some r.vector.few;
      }

  rings_kept : (vs : List ℕ) (rs : List Ring) → AllByRecursion (Of n p) vs → Made n vs rs → Rings p n vs rs
  rings_kept [] [] a m = tt
  rings_kept [] (r ∷ rs) a m = m
  rings_kept (v ∷ vs) [] a m = m
  rings_kept (v ∷ vs) (r ∷ rs) a m = (ring_kept v r a.0 m.0.0 m.0.1, rings_kept vs rs a.1 m.1)

  all_with : (o : Option ℕ) (vs : List ℕ) → IfSome o (Of n p) → AllByRecursion (Of n p) vs → AllByRecursion (Of n p) (cons_option o vs)
  all_with None vs g h = h
  all_with (Some v) vs g h = (g, h)

  all_vectors : (rs : List Answered) → AllByRecursion Gave rs → AllByRecursion (Of n p) (vectors rs)
  all_vectors [] g = tt
  all_vectors (a ∷ rs) g = all_with (given_by a) (vectors rs) g.0 (all_vectors rs g.1)

  pub run_rings : (cs : List Call) (rs : List Answered) (made : List Ring) → Obeys (SearchLaw p n) cs rs → Made n (vectors rs) made → Rings p n (vectors rs) made
  run_rings cs rs made o m = rings_kept (vectors rs) made (all_vectors rs (gives cs rs o)) m

-- ---- one answer more

with_none : (o : Option ℕ) → cons_option o [] ≡ option_to_list o
with_none None = refl
with_none (Some v) = refl

vectors_more : (rs : List Answered) (i : ℕ) (d : Answered) → i < length rs → vectors (take (i + 1) rs) ≡ vectors (take i rs) ++ option_to_list (given_by (get_or rs i d))
vectors_more rs i d within =
    ap vectors (take_more rs i d within) ∙ filter_map-append given_by (take i rs) (get_or rs i d ∷ [])
    ∙ ap (λ (z : List ℕ). vectors (take i rs) ++ z) (with_none (given_by (get_or rs i d)))

made_push : (n : ℕ) (vs : List ℕ) (rs : List Ring) (v : ℕ) (r : Ring) → r.vector.cells ≡ n → r.vector.rules ≡ v
    → Made n vs rs → Made n (vs ++ (v ∷ [])) (rs ++ (r ∷ []))
made_push n [] [] v r c u m = ((c, u), tt)
made_push n [] (x ∷ rs) v r c u m = absurd m
made_push n (w ∷ vs) [] v r c u m = absurd m
made_push n (w ∷ vs) (x ∷ rs) v r c u m = (m.0, made_push n vs rs v r c u m.1)

-- the answer at i gives o
module _ (n : ℕ) (rs : List Answered) (i : ℕ) (d : Answered) (within : i < length rs) (o : Option ℕ) (read : o ≡ given_by (get_or rs i d))
    (made : List Ring) (m : Made n (vectors (take i rs)) made) where
  pub turn_vector : (v : ℕ) (r : Ring) → o ≡ Some v → r.vector.cells ≡ n → r.vector.rules ≡ v → Made n (vectors (take (i + 1) rs)) (made ++ (r ∷ []))
  turn_vector v r is cells rules = rw (vectors_more rs i d within, ← read, is) (made_push n (vectors (take i rs)) made v r cells rules m)

  pub turn_none : o ≡ None → Made n (vectors (take (i + 1) rs)) made
  turn_none is = rw (vectors_more rs i d within, ← read, is, append-nil (vectors (take i rs))) m
