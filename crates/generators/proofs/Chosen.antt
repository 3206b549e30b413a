-- Chosen sums, one item after the other.
use Rattle.std.proofs.Common.{◌≡◌, ℕ, ◌+◌, ◌/◌, ◌%◌, ◌<◌, ◌≤◌, List, length, get_or, drop, sym, ap, ◌∙◌, ap₂, mod-lt, zero-lt-suc, add-one, arith, drop_of_length-le, drop-cons}
use lib.Bits.{bit_and, and_mask}
use Rattle.generators.specs.Chosen.{taken, chosen}

module _ {A : Type 0} (none : A) (plus : A → A → A)
    (unit : (x : A) → plus none x ≡ x) (commutes : (x y : A) → plus x y ≡ plus y x)
    (associates : (x y z : A) → plus (plus x y) z ≡ plus x (plus y z)) where
  -- the sum so far, with what is left
  abbrev with_rest : List A → ℕ → A → ℕ → A
  with_rest xs i sum left = plus sum (chosen none plus (drop i xs) left)

  pub chosen_none : (xs : List A) (i : ℕ) (sum : A) (left : ℕ) → length xs ≤ i → with_rest xs i sum left ≡ sum
  unfolding chosen
  chosen_none xs i sum left h =
      ap (λ (r : List A). plus sum (chosen none plus r left)) (drop_of_length-le xs h) ∙ commutes sum none ∙ unit sum

  module _ (xs : List A) (i : ℕ) (x : A) (within : i < length xs) (read : x ≡ get_or xs i x) (sum : A) (left : ℕ) where
    item : with_rest xs i sum left ≡ with_rest xs (i + 1) (plus sum (taken none (left % 2) x)) (left / 2)
    unfolding chosen
    item =
        ap (λ (r : List A). plus sum (chosen none plus r left)) (drop-cons xs i x within)
        ∙ ap₂ (λ (y : A) (k : ℕ). plus sum (plus (taken none (left % 2) y) (chosen none plus (drop k xs) (left / 2)))) (sym read) (sym (add-one i))
        ∙ sym (associates sum (taken none (left % 2) x) (chosen none plus (drop (i + 1) xs) (left / 2)))

    pub chosen_set : (more added : A) → more ≡ added → added ≡ plus sum x → bit_and left 1 ≡ 1 → with_rest xs (i + 1) more (left / 2) ≡ with_rest xs i sum left
    chosen_set more added is adds e =
        ap (λ (y : A). with_rest xs (i + 1) y (left / 2)) (is ∙ adds)
        ∙ sym (item ∙ ap (λ (b : ℕ). with_rest xs (i + 1) (plus sum (taken none b x)) (left / 2)) (sym (and_mask left 1) ∙ e))

    pub chosen_clear : (more : A) → more ≡ sum → (bit_and left 1 ≡ 1 → ⊥) → with_rest xs (i + 1) more (left / 2) ≡ with_rest xs i sum left
    chosen_clear more is n =
        let low = mod-lt left (zero-lt-suc 1) in
        let clear : left % 2 ≡ 0 = omega (arith, and_mask left 1, n) in
        ap (λ (y : A). with_rest xs (i + 1) y (left / 2)) is
        ∙ sym
        (item ∙ ap (λ (b : ℕ). with_rest xs (i + 1) (plus sum (taken none b x)) (left / 2)) clear
        ∙ ap (λ (y : A). with_rest xs (i + 1) y (left / 2)) (commutes sum none ∙ unit sum))
