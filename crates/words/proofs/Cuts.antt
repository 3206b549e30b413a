-- Lines and words that are cut at the first byte of a kind.
use Rattle.std.proofs.Common.{◌≡◌, ℕ, suc, ◌+◌, ◌<◌, ◌≤◌, unwrap_or, Bool, true, false, not, List, [], ◌∷◌, ◌++◌, length, get_or, take, drop, Some, None, Option, subst, sym, refl, ap, ◌∙◌, append_assoc, append-nil, rules, arith}
use Rattle.std.specs.Bool.{◌==◌}
use Rattle.std.specs.List.{position, position_or_len}
use Rattle.std.proofs.lemmas.List.{at_drop_more, at_drop_all}
use Rattle.std.proofs.lemmas.List.Sums.{prefix_len-le-length, prefix_len_stops}
use Rattle.std.proofs.Math.Numerals.{suc-eq-add-one}
use Rattle.words.specs.Words.{space, filled, words, words_after, equals, with_first, halves_of}

one_more : (n : ℕ) → 1 + n ≡ suc n
one_more n = omega arith

module _ {X : Type 0} (p : X → Bool) (xs : List X) where
  place_is : (i : ℕ) → position p xs ≡ Some i → (i < length xs) × (position_or_len p xs ≡ i)
  place_is i e = grind arith

  no_place : position p xs ≡ None → length xs ≤ position_or_len p xs
  no_place e = grind arith

  place_or_end : unwrap_or (position p xs) (length xs) ≡ position_or_len p xs
  place_or_end = let most = prefix_len-le-length (λ x. not (p x)) xs in grind arith

abbrev Ends : List ℕ → List ℕ → Type 0
Ends piece line = words_after piece line ≡ filled (piece ++ take (position_or_len (λ c. c == space) line) line) ++ words (drop (position_or_len (λ c. c == space) line) line)

-- a piece goes on to the first space
piece_ends : (piece line : List ℕ) → Ends piece line
piece_ends piece [] = search rules
piece_ends piece (b ∷ line) = by (b == space) refl (piece_ends (piece ++ (b ∷ [])) line)
  where
    by : (t : Bool) → (b == space) ≡ t → Ends (piece ++ (b ∷ [])) line → Ends piece (b ∷ line)
    by true e h = rw (e, append-nil) (rw e refl)
    by false e h = rw (e, one_more) (rw append_assoc at h)

abbrev Skips : List ℕ → Type 0
Skips line = words line ≡ words (drop (position_or_len (λ c. not (c == space)) line) line)

-- spaces before the first word make none
spaces_end : (line : List ℕ) → Skips line
spaces_end [] = refl
spaces_end (b ∷ line) = by (b == space) refl (spaces_end line)
  where
    by : (t : Bool) → (b == space) ≡ t → Skips line → Skips (b ∷ line)
    by true e h = rw (e, one_more) h
    by false e h = rw e (rw e refl)

abbrev Begins : List ℕ → Type 0
Begins line = words line ≡ take (position_or_len (λ c. c == space) line) line ∷ words (drop (position_or_len (λ c. c == space) line) line)

-- a line that begins with another byte than a space begins with a word
begins : (b : ℕ) (line : List ℕ) → (b == space) ≡ false → Begins (b ∷ line)
begins b line e = rw (e, one_more) (piece_ends (b ∷ []) line)

pub no_word : (line : List ℕ) → position (λ c. not (c == space)) line ≡ None → words line ≡ []
no_word line e = spaces_end line ∙ at_drop_all words line _ (no_place (λ c. not (c == space)) line e)

pub cut_word : (line here : List ℕ) (start end : ℕ) (gap : Option ℕ) → position (λ c. not (c == space)) line ≡ Some start → here ≡ drop start line
    → gap ≡ position (λ c. c == space) here → end ≡ unwrap_or gap (length here) → words line ≡ take end here ∷ words (drop end here)
cut_word line here start end gap e is g f =
    let at = place_is (λ c. not (c == space)) line start e in
    let stops : (get_or line start 0 == space) ≡ false = search (rules, at.1, prefix_len_stops (λ c. not (not (c == space))) line 0) in
    spaces_end line ∙ ap (λ i. words (drop i line)) at.1 ∙ ap words (sym is)
    ∙ subst Begins (sym (is ∙ at_drop_more (λ l. l) line start 0 at.0)) (begins (get_or line start 0) (drop (start + 1) line) stops)
    ∙ ap (λ k. take k here ∷ words (drop k here)) (sym (f ∙ ap (λ o. unwrap_or o (length here)) g ∙ place_or_end (λ c. c == space) here))

abbrev Parts : List ℕ → Type 0
Parts w = position_or_len (λ c. c == equals) w < length w
    → halves_of w ≡ Some (take (position_or_len (λ c. c == equals) w) w, drop (suc (position_or_len (λ c. c == equals) w)) w)

-- the first sign parts a word
parts : (w : List ℕ) → Parts w
parts [] = λ h. absurd (omega arith)
parts (b ∷ w) = by (b == equals) refl (parts w)
  where
    by : (t : Bool) → (b == equals) ≡ t → Parts w → Parts (b ∷ w)
    by true e p = λ h. rw e refl
    by false e p = λ h. rw (e, one_more) (ap (with_first b) (p (omega (arith, rw e at h))))

abbrev Whole : List ℕ → Type 0
Whole w = length w ≤ position_or_len (λ c. c == equals) w → halves_of w ≡ None

-- a word with no sign has no parts
whole : (w : List ℕ) → Whole w
whole [] = λ h. refl
whole (b ∷ w) = by (b == equals) refl (whole w)
  where
    by : (t : Bool) → (b == equals) ≡ t → Whole w → Whole (b ∷ w)
    by true e p = λ h. absurd (omega (arith, rw e at h))
    by false e p = λ h. rw e (ap (with_first b) (p (omega (arith, rw e at h))))

pub no_sign : (w : List ℕ) → position (λ c. c == equals) w ≡ None → None ≡ halves_of w
no_sign w e = sym (whole w (no_place (λ c. c == equals) w e))

pub at_sign : (w : List ℕ) (sign : ℕ) → position (λ c. c == equals) w ≡ Some sign → Some (take sign w, drop (sign + 1) w) ≡ halves_of w
at_sign w sign e =
    let at = place_is (λ c. c == equals) w sign e in
    ap (λ (n : ℕ). Some (take sign w, drop n w)) (sym (suc-eq-add-one sign)) ∙ ap (λ (n : ℕ). Some (take n w, drop (suc n) w)) (sym at.1)
    ∙ sym (parts w (subst (λ (n : ℕ). n < length w) (sym at.1) at.0))
