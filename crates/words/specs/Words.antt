-- The words of a line of bytes: its longest runs of bytes other than the space.
--
--   space            == the byte that parts words
--   filled piece     == the piece as a list of one word, or of none if it is empty
--   words_after p s  == the words of p followed by s, where p has no space
--   words line       == the words of the line, in their order
--   left ws          == the words that ws has yet to give
--   equals           == the byte '='
--   halves_of w      == what stands before and after the first '=' of w, where it has one
use Rattle.std.specs.Prelude.{ℕ, cond, List, [], ◌∷◌, ◌++◌, Some, None, Option, ◌==◌}
use Rattle.words.specs.declared.words.Words.{Words}

abbrev pub space : ℕ
space = 32

abbrev pub filled : List ℕ → List (List ℕ)
filled [] = []
filled (b ∷ piece) = (b ∷ piece) ∷ []

abbrev pub words_after : List ℕ → List ℕ → List (List ℕ)
words_after piece [] = filled piece
words_after piece (b ∷ line) = cond (b == space) (filled piece ++ words_after [] line) (words_after (piece ++ (b ∷ [])) line)

abbrev pub words : List ℕ → List (List ℕ)
words line = words_after [] line

abbrev pub left : Words → List (List ℕ)
left ws = words ws.rest.now

abbrev pub equals : ℕ
equals = 61

-- one byte more before the sign
abbrev pub with_first : ℕ → Option (List ℕ × List ℕ) → Option (List ℕ × List ℕ)
with_first b None = None
with_first b (Some h) = Some (b ∷ h.0, h.1)

abbrev pub halves_of : List ℕ → Option (List ℕ × List ℕ)
halves_of [] = None
halves_of (b ∷ w) = cond (b == equals) (Some ([], w)) (with_first b (halves_of w))
