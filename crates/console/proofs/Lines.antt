-- Answers to the lines that were read, and to those that are yet to be read.
use Rattle.std.proofs.Common.{◌≡◌, ℕ, suc, ◌+◌, ◌-◌, ◌<◌, Bool, true, false, nat_lt, List, [], ◌∷◌, ◌++◌, length, length-append, slice_index, Some, None, Option, IfSome, subst, sym, refl, ap, ◌∙◌, append_assoc, append-nil, rules, arith}
use Rattle.std.specs.Bool.{◌==◌, ⊤}
use Rattle.std.specs.Io.BufRead.{take_through, drop_through, strip_last, DropsThrough}
use Rattle.std.specs.Io.KnownBytes.{Appends}
use Rattle.console.specs.Lines.{lines_after, lines, answers}

less_one : (n : ℕ) → suc n - 1 ≡ n
less_one n = omega arith

some_more : (n : ℕ) → nat_lt 0 (suc n) ≡ true
some_more n = search rules

strip_more : (b : ℕ) (t : List ℕ) → (b == 10) ≡ false → strip_last 10 (b ∷ t) ≡ b ∷ strip_last 10 t
strip_more b [] e = rw e refl
strip_more b (c ∷ t) e = by (slice_index (c ∷ t) (length t) == 10) refl
  where
    by : (l : Bool) → (slice_index (c ∷ t) (length t) == 10) ≡ l → strip_last 10 (b ∷ c ∷ t) ≡ b ∷ strip_last 10 (c ∷ t)
    by true h = rw (less_one (suc (length t)), less_one (length t), some_more (suc (length t)), some_more (length t), h) refl
    by false h = rw (less_one (suc (length t)), less_one (length t), some_more (suc (length t)), some_more (length t), h) refl

abbrev Begins : List ℕ → List ℕ → Type 0
Begins piece xs = lines_after piece xs ≡ (piece ++ strip_last 10 (take_through 10 xs)) ∷ lines (drop_through 10 xs)

-- the first line goes on to the first line feed
begins : (piece xs : List ℕ) → 0 < length piece + length xs → Begins piece xs
begins [] [] some = absurd (omega arith)
begins (p ∷ piece) [] some = search rules
begins piece (b ∷ xs) some = by (b == 10) refl (begins (piece ++ (b ∷ [])) xs (search (rules, length-append)))
  where
    by : (l : Bool) → (b == 10) ≡ l → Begins (piece ++ (b ∷ [])) xs → Begins piece (b ∷ xs)
    by true e h = rw (e, e, append-nil) refl
    by false e h = rw (e, strip_more) (rw append_assoc at h)

-- where the bytes are known: what was written, with the answers to what is left to be read, is what shall be written
abbrev pub Goes : (ℕ → List ℕ → List ℕ) → Option (List ℕ) → Option (List ℕ) → ℕ → Option (List ℕ) → Option (List ℕ) → Type 0
Goes text None old n input output = ⊤
Goes text (Some xs) None n input output = ⊤
Goes text (Some xs) (Some o) n None output = ⊥
Goes text (Some xs) (Some o) n (Some ys) None = ⊥
Goes text (Some xs) (Some o) n (Some ys) (Some p) = p ++ answers text n (lines ys) ≡ o ++ answers text 1 (lines xs)

some_left : (xs : List ℕ) → 0 < length (take_through 10 xs) → 0 < length xs
some_left [] h = h
some_left (x ∷ xs) h = search rules

-- one line more was read and answered
pub goes_on : (text : ℕ → List ℕ → List ℕ) (input old : Option (List ℕ)) (n : ℕ) (i o i' o' : Option (List ℕ)) (before read l : List ℕ)
    → before ≡ [] → 0 < length read → IfSome i (λ xs. read ≡ before ++ take_through 10 xs) → l ≡ strip_last 10 read → DropsThrough i i' 10
    → Appends o o' (text n l ++ (10 ∷ [])) → Goes text input old n i o → Goes text input old (n + 1) i' o'
goes_on text None old n i o i' o' before read l empty some r s d a g = tt
goes_on text (Some xs) None n i o i' o' before read l empty some r s d a g = tt
goes_on text (Some xs) (Some w) n None o i' o' before read l empty some r s d a g = absurd g
goes_on text (Some xs) (Some w) n (Some ys) None i' o' before read l empty some r s d a g = absurd g
goes_on text (Some xs) (Some w) n (Some ys) (Some p) i' None before read l empty some r s d a g = absurd a
goes_on text (Some xs) (Some w) n (Some ys) (Some p) i' (Some q) before read l empty some r s d a g =
    let rest = answers text (n + 1) (lines (drop_through 10 ys)) in
    let whole : read ≡ take_through 10 ys = r ∙ ap (λ z. z ++ take_through 10 ys) empty in
    let first : lines ys ≡ l ∷ lines (drop_through 10 ys) =
    begins [] ys (omega (arith, some_left ys (subst (λ z. 0 < length z) whole some))) ∙ ap (λ z. z ∷ lines (drop_through 10 ys)) (ap (strip_last 10) (sym whole) ∙ sym s) in
    subst (λ z. Goes text (Some xs) (Some w) (n + 1) z (Some q)) (sym d)
    (ap (λ z. z ++ rest) a ∙ append_assoc p (text n l ++ (10 ∷ [])) rest ∙ ap (λ z. p ++ z) (append_assoc (text n l) (10 ∷ []) rest)
    ∙ ap (λ ls. p ++ answers text n ls) (sym first) ∙ g)
