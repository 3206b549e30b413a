-- A word made of one bit from each item of a list.
use Rattle.std.proofs.Common.{◌≡◌, ℕ, suc, ◌+◌, ◌*◌, ◌/◌, ◌%◌, ◌^◌, ◌<◌, ◌≤◌, List, [], ◌∷◌, reverse, length, get_or, sym, refl, ap, ◌∙◌, subst, ap₂, pow-suc, div-one, one-add, add-one, shr-shr, arith}
use lib.Bits.{bit_or, or_shifted}
use lib.Pow.{mod-pow-add}
use mathlib.Core.List.{reverse-cons}
use Rattle.std.specs.List.{fold}
use Rattle.std.proofs.lemmas.List.Sums.{fold_push}
use Rattle.gf2.proofs.Words.{shift_word}
use Rattle.search.specs.Systems.{coefficient, word_of}

module _ {A : Type 0} (f : A → ℕ) where
  -- the word after one item more, in 32 bits
  abbrev pub pushed : ℕ → A → ℕ
  pushed word x = bit_or (word * 2 % 2 ^ 32) (f x)

  -- the items hold the digits of y
  pub word_of_digits : (xs : List A) (d : A) (y : ℕ) → ((j : ℕ) → j < length xs → f (get_or xs j d) ≡ coefficient y j) → word_of f xs ≡ y % 2 ^ length xs
  unfolding word_of
  word_of_digits [] d y h = omega arith
  word_of_digits (x ∷ xs) d y h =
      let first : f x ≡ y % 2 = h 0 (omega arith) ∙ ap (λ (z : ℕ). z % 2) (div-one y) in
      let rest : word_of f xs ≡ y / 2 % 2 ^ length xs =
      word_of_digits xs d (y / 2) (λ j l. h (suc j) (omega arith) ∙ ap (λ (z : ℕ). z % 2) (sym (shr-shr y 1 j ∙ ap (λ (n : ℕ). y / 2 ^ n) (one-add j)))) in
      ap₂ (λ (w b : ℕ). w * 2 + b) rest first ∙ sym (mod-pow-add y (length xs) 1) ∙ ap (λ (n : ℕ). y % 2 ^ n) (add-one (length xs))

  module _ (bits : (x : A) → f x < 2) where
    pub word_below : (xs : List A) → word_of f xs < 2 ^ length xs
    unfolding word_of
    word_below [] = omega arith
    word_below (x ∷ xs) =
        let rest = word_below xs in
        let low = bits x in
        subst (λ (z : ℕ). word_of f xs * 2 + f x < z) (sym (pow-suc 2 (length xs))) (omega arith)

    pub folded : (xs : List A) → length xs ≤ 32 → fold pushed 0 (reverse xs) ≡ word_of f xs
    unfolding word_of
    folded [] few = refl
    folded (x ∷ xs) few =
        let shift = shift_word 32 (word_of f xs) (length xs) (word_below xs) (omega arith) in
        ap (fold pushed 0) (reverse-cons x xs) ∙ fold_push pushed 0 (reverse xs) x
        ∙ ap (λ (w : ℕ). pushed w x) (folded xs (omega arith))
        ∙ ap (λ (w : ℕ). bit_or w (f x)) shift ∙ or_shifted (word_of f xs) 1 (f x) (bits x)
