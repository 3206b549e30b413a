-- What words read as. A reading takes a word and gives a value, if the word writes one.
--
--   number_in w       == the number that w writes, at most 2^64 − 1
--   small_in w        == the number that w writes, at most 2^32 − 1
--   word_in w         == the number that w writes, if it is below 2^32
--   polynomial_in w   == the same, as a polynomial
--   first_by read ws  == what the first of the words ws reads as, with the words after it
--   then o k          == k of what was read and the words after it, where something was read
--   ended ws x        == x, where no word is left
--   all_by read ws    == what the words ws read as, where each of them reads
use Rattle.std.specs.Prelude.{ℕ, ◌-◌, ◌^◌, min, cond, ◌&&◌, List, [], ◌∷◌, Some, None, Option, nat_lt}
use Rattle.std.specs.Option.{option_map, option_and_then}
use Rattle.words.specs.declared.reading.Polynomial.{Polynomial}
use Rattle.words.specs.Numbers.{is_number, value}

abbrev pub amount : List ℕ → ℕ
amount w = min (value w) (2 ^ 64 - 1)

abbrev pub number_in : List ℕ → Option ℕ
number_in w = cond (is_number w) (Some (amount w)) None

abbrev pub small_in : List ℕ → Option ℕ
small_in w = cond (is_number w) (Some (min (amount w) (2 ^ 32 - 1))) None

abbrev pub word_in : List ℕ → Option ℕ
word_in w = cond (is_number w && nat_lt (amount w) (2 ^ 32)) (Some (amount w)) None

abbrev pub polynomial_in : List ℕ → Option Polynomial
polynomial_in w = option_map (λ p. record { word = p }) (word_in w)

abbrev pub first_by : {X : Type 0} → (List ℕ → Option X) → List (List ℕ) → Option (X × List (List ℕ))
first_by read [] = None
first_by read (w ∷ ws) = option_map (λ x. (x, ws)) (read w)

abbrev pub then : {X Y : Type 0} → Option (X × List (List ℕ)) → (X → List (List ℕ) → Option Y) → Option Y
then o k = option_and_then (λ e. k e.0 e.1) o

abbrev pub ended : {X : Type 0} → List (List ℕ) → X → Option X
ended [] x = Some x
ended (w ∷ ws) x = None

abbrev pub all_by : {X : Type 0} → (List ℕ → Option X) → List (List ℕ) → Option (List X)
all_by read [] = Some []
all_by read (w ∷ ws) = option_and_then (λ x. option_map (λ xs. x ∷ xs) (all_by read ws)) (read w)
