-- The texts of what came of calls.
--
--   answered_text f r  == how an answer is told, by f, or the refusal
--   shown_or_refused f r == the same where f may have no text for an answer
--   joined sep ts      == the texts with the separator between two, or "none"
--   ShownBy f P        == P holds of the text of a value, where f has one for each value
use Rattle.std.specs.Prelude.{◌≡◌, ℕ, List, [], ◌∷◌, ◌++◌, Some, Ok, Err, codes, Option, Result, flat_map}
use Rattle.rings.specs.declared.refusal.Refusal.{Refusal}
use Rattle.rings.specs.Texts.{refusal_text}

abbrev pub answered_text : {A : Type 0} → (A → List ℕ) → Result A Refusal → List ℕ
answered_text f (Ok a) = f a
answered_text f (Err q) = refusal_text q

abbrev pub shown_or_refused : {A : Type 0} → (A → Option (List ℕ)) → Result A Refusal → Option (List ℕ)
shown_or_refused f (Ok a) = f a
shown_or_refused f (Err q) = Some (refusal_text q)

abbrev pub joined : List ℕ → List (List ℕ) → List ℕ
joined sep [] = codes "none"
joined sep (t ∷ ts) = t ++ flat_map (λ u. sep ++ u) ts

abbrev pub ShownBy : {A : Type 0} → (A → Option (List ℕ)) → ((A → List ℕ) → Type 0) → Type 0
ShownBy {A} f P = (show : A → List ℕ) → ((x : A) → f x ≡ Some (show x)) → P show
