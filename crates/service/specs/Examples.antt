-- Worked examples: one table, and what each of its rows says of the definitions.
--
--   listed p n vs       == a row: all vectors of the polynomial p, of degree n, are vs
--   answered p n cs rs  == a row: a search on p answers the calls cs by rs
--   shown m w ps        == a row: the generator m, seeded with w, shows ps at the clocks 0, 1, 2, …
--   Shows m w c ps      == m, seeded with w, shows ps from the clock c on
--   Holds e             == what the row e says is so
--   ring_30             == the ring of five cells with the vector 30
--   register_37         == the register of the polynomial 37
--   table               == all rows
--   Examples            == every row of the table holds
use Rattle.std.specs.Prelude.{◌≡◌, ℕ, suc, List, [], ◌∷◌, Ok, Err}
use Rattle.std.specs.List.{AllByRecursion}
use Rattle.gf2.specs.Algebra.{Degree}
use Rattle.rings.specs.declared.refusal.Refusal.TheVariants.{NoVectorLeft}
use Rattle.rings.specs.Cells.{ring_next}
use Rattle.rings.specs.Vectors.{polynomial_of}
use Rattle.generators.specs.Generators.{Meaning, plain, doubled, tapped, iterate}
use Rattle.generators.specs.Registers.{register_next}
use Rattle.runs.specs.Runs.{Obeys}
use Rattle.search.specs.Lists.{full_list}
use Rattle.service.specs.declared.searches.Call.{Call}
use Rattle.service.specs.declared.searches.Call.TheVariants.{Pin, Count, Next}
use Rattle.service.specs.declared.searches.Answer.TheVariants as answer
use Rattle.service.specs.Searches.{Answered, SearchLaw}

pub data Example : Type 0 where
  listed : (polynomial cells : ℕ) → List ℕ → Example
  answered : (polynomial cells : ℕ) → List Call → List Answered → Example
  shown : (m : Meaning) → (seed : ℕ) → List ℕ → Example

abbrev pub Shows : Meaning → ℕ → ℕ → List ℕ → Type 0
Shows m w c [] = Unit {0}
Shows m w c (x ∷ ps) = (m.shown (iterate m.next c w) ≡ x) × Shows m w (suc c) ps

abbrev pub Holds : Example → Type 0
Holds (listed p n vs) = Degree p n × (full_list n p ≡ vs)
Holds (answered p n cs rs) = Degree p n × Obeys (SearchLaw p n) cs rs
Holds (shown m w ps) = Shows m w 0 ps

abbrev pub ring_30 : Meaning
ring_30 = plain (polynomial_of 5 30) 5 (ring_next 5 30)

abbrev pub register_37 : Meaning
register_37 = plain 37 5 (register_next 37 5)

unfoldable pub table : List Example
table =
    listed 2 1 (0 ∷ [])
    ∷ listed 3 1 (1 ∷ [])
    ∷ listed 7 2 (1 ∷ 2 ∷ [])
    ∷ listed 6 2 []
    ∷ listed 11 3 (3 ∷ 6 ∷ [])
    ∷ listed 21 4 (0 ∷ 15 ∷ [])
    ∷ listed 37 5 (15 ∷ 30 ∷ [])
    ∷ listed 67 6 (6 ∷ 24 ∷ [])
    ∷ listed 131 7 (77 ∷ 89 ∷ [])
    ∷ listed 121 6 (4 ∷ 8 ∷ 55 ∷ 59 ∷ [])
    ∷ answered 121 6 (Pin 1 1 ∷ Count ∷ Next ∷ Next ∷ Next ∷ []) (Ok answer.Done ∷ Ok (answer.Count 2) ∷ Ok (answer.Vector 55) ∷ Ok (answer.Vector 59) ∷ Err NoVectorLeft ∷ [])
    ∷ shown ring_30 1 (1 ∷ 2 ∷ 7 ∷ 11 ∷ 25 ∷ 6 ∷ [])
    ∷ shown register_37 1 (1 ∷ 2 ∷ 4 ∷ 9 ∷ 18 ∷ [])
    ∷ shown (doubled ring_30) 1 (1 ∷ 7 ∷ 25 ∷ [])
    ∷ shown (tapped ring_30) 11 (14 ∷ [])
    ∷ []

abbrev pub Examples : Type 0
Examples = AllByRecursion Holds table
