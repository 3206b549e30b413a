-- The vectors of a polynomial, and those of them that obey pins.
--
--   from_on a k              == a, a + 1, …, k numbers
--   has n p v                == whether v, as a vector of n cells, has the polynomial p
--   vectors_below n p a      == the numbers below a that have the polynomial p as vectors of n cells, ascending
--   full_list n p            == all vectors of n cells with the polynomial p, ascending
--   fits pins v              == whether v obeys the pins; the first is that of cell 1, the lowest bit
--   fitting_below n p pins a == those of the vectors below a that obey the pins
--   fitting_list n p pins    == those of the full list that obey the pins
--   Of n p v                 == v is a vector of n cells with the polynomial p
--   Wanted n p pins a v      == v is such a vector, obeys the pins, and is not below a
--   Least F r                == r is the smallest number that satisfies F, or none does
use Rattle.std.specs.Prelude.{◌≡◌, ℕ, zero, suc, ◌/◌, ◌%◌, ◌^◌, ◌<◌, ◌≤◌, Bool, true, ◌&&◌, List, [], ◌∷◌, Some, None, filter, Option, ◌==◌}
use Rattle.rings.specs.Vectors.{polynomial_of, recurrence_from}

unfoldable pub from_on : ℕ → ℕ → List ℕ
from_on a zero = []
from_on a (suc k) = a ∷ from_on (suc a) k

unfoldable pub has : ℕ → ℕ → ℕ → Bool
has n p v = polynomial_of n v == p

unfoldable pub vectors_below : ℕ → ℕ → ℕ → List ℕ
vectors_below n p a = filter (has n p) (from_on 0 a)

unfoldable pub full_list : ℕ → ℕ → List ℕ
full_list n p = vectors_below n p (2 ^ n)

unfoldable pub fits : List (Option ℕ) → ℕ → Bool
fits [] v = true
fits (None ∷ pins) v = fits pins (v / 2)
fits (Some b ∷ pins) v = v % 2 == b && fits pins (v / 2)

unfoldable pub fitting_below : ℕ → ℕ → List (Option ℕ) → ℕ → List ℕ
fitting_below n p pins a = filter (fits pins) (vectors_below n p a)

unfoldable pub fitting_list : ℕ → ℕ → List (Option ℕ) → List ℕ
fitting_list n p pins = filter (fits pins) (full_list n p)

pub record Of (n p v : ℕ) : Type 0 where
  pub below : v < 2 ^ n
  pub polynomial : polynomial_of n v ≡ p

pub record Wanted (n p : ℕ) (pins : List (Option ℕ)) (a v : ℕ) : Type 0 where
  pub one : Of n p v
  pub obeys : fits pins v ≡ true
  pub from : a ≤ v

abbrev pub Sound : (ℕ → Type 0) → Option ℕ → Type 0
Sound F None = Unit {0}
Sound F (Some v) = F v

-- F holds of r, and r is the number that belongs to y, if one does that satisfies F
pub record Candidate (F : ℕ → Type 0) (n y : ℕ) (r : Option ℕ) : Type 0 where
  pub sound : Sound F r
  pub complete : (v : ℕ) → F v → recurrence_from n v ≡ y → r ≡ Some v

abbrev pub NotAbove : Option ℕ → ℕ → Type 0
NotAbove None v = ⊥
NotAbove (Some r) v = r ≤ v

pub record Least (F : ℕ → Type 0) (r : Option ℕ) : Type 0 where
  pub sound : Sound F r
  pub least : (v : ℕ) → F v → NotAbove r v
