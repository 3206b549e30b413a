-- The smallest of the candidates, and the vector that a word leads to.
use Rattle.std.proofs.Common.{◌≡◌, ℕ, ◌<◌, ◌≤◌, Bool, true, false, inl, inr, List, [], ◌∷◌, Some, None, Option, sym, refl, ap, ◌∙◌, subst, ⊎_elim, arith}
use Rattle.std.specs.Bool.{then_some}
use Rattle.std.specs.List.{cons_option, range_with_len}
use Rattle.std.specs.Option.{MatchOption}
use Rattle.gf2.proofs.Orders.{order}
use Rattle.rings.specs.Vectors.{recurrence_from}
use Rattle.rings.proofs.Recurrence.{polynomial_recurrence}
use Rattle.search.specs.declared.span.Span.{Span}
use Rattle.search.specs.Lists.{Of, Wanted, Sound, Candidate, NotAbove, Least}
use Rattle.search.specs.Spans.{word_at, Complete}
use Rattle.search.specs.Undoing.{Undoes}
use Rattle.search.proofs.Picked.{In, in_range, Gave}

-- ---- the smallest of the candidates

module _ (n p : ℕ) (pins : List (Option ℕ)) (a : ℕ) (span : Span) (complete : Complete p n span) where
  abbrev F : ℕ → Type 0
  F = Wanted n p pins a

  abbrev pub At : ℕ → Option ℕ → Type 0
  At t r = Candidate F n (word_at span t) r

  among : (v : ℕ) → F v → ((t : ℕ) → t < span.words → recurrence_from n v ≡ word_at span t → ⊥) → ⊥
  among v f = complete v f.one.below (sym (polynomial_recurrence n v) ∙ f.one.polynomial)

  sounds : (ts zs : List ℕ) → Gave At ts zs → (v : ℕ) → In v zs → F v
  sounds [] zs g v i = absurd (subst (In v) g i)
  sounds (t ∷ ts) zs g v i = here g.0 g.2.sound (subst (In v) g.4 i) (sounds ts g.1 g.3 v)
    where
      here : (o : Option ℕ) → Sound F o → In v (cons_option o g.1) → (In v g.1 → F v) → F v
      here None s j later = later j
      here (Some u) s j later = ⊎_elim (λ is. subst F (sym is) s) later j

  found : (ts zs : List ℕ) → Gave At ts zs → (v t : ℕ) → F v → In t ts → recurrence_from n v ≡ word_at span t → In v zs
  found [] zs g v t f i e = absurd i
  found (s ∷ ts) zs g v t f i e = subst (In v) (sym g.4) (⊎_elim (λ is. here g.0 (g.2.complete v f (e ∙ ap (word_at span) is))) (λ j. later g.0 (found ts g.1 g.3 v t f j e)) i)
    where
      here : (o : Option ℕ) → o ≡ Some v → In v (cons_option o g.1)
      here o is = subst (λ (w : Option ℕ). In v (cons_option w g.1)) (sym is) (inl refl)

      later : (o : Option ℕ) → In v g.1 → In v (cons_option o g.1)
      later None j = j
      later (Some u) j = inr j

  pub least_of : (r : Option ℕ) (zs : List ℕ) → Gave At (range_with_len 0 span.words) zs → MatchOption r (zs ≡ []) (λ y. In y zs × ((v : ℕ) → In v zs → y ≤ v)) → Least F r
  least_of r zs g m = record { sound = sound r m; least = least r m }
    where
      met : (v t : ℕ) → F v → t < span.words → recurrence_from n v ≡ word_at span t → In v zs
      met v t f l e = found (range_with_len 0 span.words) zs g v t f (in_range span.words 0 t (omega arith) (omega arith)) e

      sound : (r : Option ℕ) → MatchOption r (zs ≡ []) (λ y. In y zs × ((v : ℕ) → In v zs → y ≤ v)) → Sound F r
      sound None m = tt
      sound (Some y) m = sounds (range_with_len 0 span.words) zs g y m.0

      least : (r : Option ℕ) → MatchOption r (zs ≡ []) (λ y. In y zs × ((v : ℕ) → In v zs → y ≤ v)) → (v : ℕ) → F v → NotAbove r v
      least None m v f = among v f (λ t l e. subst (In v) m (met v t f l e))
      least (Some y) m v f = ⊎_elim (λ less. absurd (among v f (λ t l e. let low = m.1 v (met v t f l e) in omega arith))) (λ from. from) (order v y)

-- ---- the vector that a word leads to

pub undone : (n p y r : ℕ) → Undoes n p y r → (b : Bool) → elim b as (λ _. Type 0) [ true ↦ Of n p r | false ↦ Of n p r → ⊥ ] → Candidate (Of n p) n y (then_some b r)
undone n p y r undoes b has = record { sound = sound b has; complete = λ v o e. found b has v o (undoes v o.below (sym (polynomial_recurrence n v) ∙ o.polynomial) e) }
  where
    sound : (b : Bool) → elim b as (λ _. Type 0) [ true ↦ Of n p r | false ↦ Of n p r → ⊥ ] → Sound (Of n p) (then_some b r)
    sound true o = o
    sound false h = tt

    found : (b : Bool) → elim b as (λ _. Type 0) [ true ↦ Of n p r | false ↦ Of n p r → ⊥ ] → (v : ℕ) → Of n p v → r ≡ v → then_some b r ≡ Some v
    found true h v o e = ap Some e
    found false h v o e = absurd (h (subst (Of n p) (sym e) o))
