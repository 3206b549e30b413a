-- Lines of bytes, and the lines that answer them.
--
--   ended p            == the line p that the end of the bytes ends, if it is not empty
--   lines_after p xs   == the lines of p followed by xs, where p has no line feed
--   lines xs           == the lines of xs: what its line feeds part, and what stands after the last one, unless it is empty
--   answers text n ls  == the answers to the lines ls, the first of which has the number n, each ended by a line feed
--   AnswersAll text xs o o'  == where the bytes of the input and of the output are known, o' is o with the answers to the lines of xs
use Rattle.std.specs.Prelude.{ℕ, ◌+◌, List, [], ◌∷◌, ◌++◌, ◌==◌, Option, IfSome, if◌then◌else◌}
use Rattle.std.specs.Io.KnownBytes.{Appends}

abbrev pub ended : List ℕ → List (List ℕ)
ended [] = []
ended (b ∷ piece) = (b ∷ piece) ∷ []

abbrev pub lines_after : List ℕ → List ℕ → List (List ℕ)
lines_after piece [] = ended piece
lines_after piece (b ∷ xs) = if b == 10 then piece ∷ lines_after [] xs else lines_after (piece ++ (b ∷ [])) xs

abbrev pub lines : List ℕ → List (List ℕ)
lines xs = lines_after [] xs

abbrev pub answers : (ℕ → List ℕ → List ℕ) → ℕ → List (List ℕ) → List ℕ
answers text n [] = []
answers text n (l ∷ ls) = text n l ++ (10 ∷ answers text (n + 1) ls)

abbrev pub AnswersAll : (ℕ → List ℕ → List ℕ) → Option (List ℕ) → Option (List ℕ) → Option (List ℕ) → Type 0
AnswersAll text input old new = IfSome input (λ xs. Appends old new (answers text 1 (lines xs)))
