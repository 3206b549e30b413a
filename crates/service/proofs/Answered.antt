-- The right answer to a call is the only one, and it can be computed from the fitting list.
use Rattle.std.proofs.Common.{◌≡◌, ℕ, List, [], ◌∷◌, ◌++◌, length, take, drop, Ok, Err, sym, refl, ap, ◌∙◌, subst, ap₂, append-nil, take-append-drop}
use lib.Seq.{drop-append_seam}
use Rattle.search.specs.Views.{View, fitting}
use Rattle.service.specs.declared.searches.Call.{Call}
use Rattle.service.specs.declared.searches.Call.TheVariants as call
use Rattle.service.specs.declared.searches.Answer.TheVariants as answer
use Rattle.service.specs.Searches.{Answered, NextRight, RightAfter, next_answer, answer_by}

module _ (w : View) where
  only_next : (a : Answered) → NextRight w a → a ≡ next_answer (drop (length w.given) (fitting w))
  only_next (Ok answer.Done) r = absurd r
  only_next (Ok (answer.Count k)) r = absurd r
  only_next (Ok (answer.Vector v)) r = sym (ap (λ (vs : List ℕ). next_answer (drop (length w.given) vs)) r.1 ∙ ap next_answer (drop-append_seam w.given (v ∷ r.0)))
  only_next (Err q) r =
      ap (λ q. Err q) r.0
      ∙ sym (ap (λ (vs : List ℕ). next_answer (drop (length w.given) vs)) (sym r.1 ∙ sym (append-nil w.given)) ∙ ap next_answer (drop-append_seam w.given []))

  pub only : (c : Call) (a : Answered) → RightAfter w c a → a ≡ answer_by (fitting w) w c
  only (call.Pin cell value) a r = r
  only (call.Unpin cell) a r = r
  only call.Count a r = r
  only call.Next a r = only_next a r
  only call.Rewind a r = r

  module _ (vs : List ℕ) (is : fitting w ≡ vs) (first : take (length w.given) vs ≡ w.given) where
    -- what is left comes after what was given
    parts : (rest : List ℕ) → drop (length w.given) vs ≡ rest → fitting w ≡ w.given ++ rest
    parts rest e = is ∙ sym (take-append-drop (length w.given) vs) ∙ ap₂ ◌++◌ first e

    next_by : (rest : List ℕ) → drop (length w.given) vs ≡ rest → NextRight w (next_answer rest)
    next_by [] e = (refl, sym (parts [] e ∙ append-nil w.given))
    next_by (v ∷ rest) e = (rest, parts (v ∷ rest) e)

    pub right_by : (c : Call) (a : Answered) → answer_by vs w c ≡ a → RightAfter w c a
    right_by (call.Pin cell value) a e = sym e
    right_by (call.Unpin cell) a e = sym e
    right_by call.Count a e = sym e ∙ ap (λ (l : List ℕ). Ok (answer.Count (length l))) (sym is)
    right_by call.Next a e = subst (NextRight w) e (next_by (drop (length w.given) vs) refl)
    right_by call.Rewind a e = sym e
