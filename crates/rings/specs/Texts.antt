-- What refusals look like as text.
--
--   numbered n place  == "refused", a number, and a place where there is one
--   refusal_text q    == the same with the number and the place of q
use Rattle.std.specs.Prelude.{ℕ, List, ◌++◌, Some, None, codes, decimal, Option}
use Rattle.rings.specs.declared.refusal.Refusal.{Refusal}
use Rattle.rings.specs.Questions.{number_of, place_of}

abbrev pub numbered : ℕ → Option ℕ → List ℕ
numbered n None = codes "refused " ++ decimal n
numbered n (Some cell) = codes "refused " ++ (decimal n ++ (codes " at cell " ++ decimal cell))

abbrev pub refusal_text : Refusal → List ℕ
refusal_text q = numbered (number_of q) (place_of q)
