-- Texts that are put together.
use Rattle.std.proofs.Common.{◌≡◌, ℕ, List, Some, Ok, Err, IfOk, Option, Result, refl, subst}
use Rattle.rings.specs.declared.refusal.Refusal.{Refusal}
use Rattle.replies.specs.Texts.{answered_text, shown_or_refused}

-- a text under another name for it
pub made_as : {X Y : Type 0} (r : Result X Y) (f : X → List ℕ) {s t : List ℕ} → s ≡ t → IfOk r (λ x. f x ≡ s) → IfOk r (λ x. f x ≡ t)
made_as r f e = subst (λ t. IfOk r (λ x. f x ≡ t)) e

-- an answer or a refusal has a text where each answer has one
pub shown_answer : {A : Type 0} (f : A → Option (List ℕ)) (show : A → List ℕ) → ((x : A) → f x ≡ Some (show x))
    → (r : Result A Refusal) → shown_or_refused f r ≡ Some (answered_text show r)
shown_answer f show h (Ok a) = h a
shown_answer f show h (Err q) = refl
