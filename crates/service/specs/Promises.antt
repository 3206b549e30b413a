-- What is promised of a run as a whole: of the search, of the rig, and of the rings that are made from what was given.
--
--   vectors rs             == all vectors that the answers rs give, in their order
--   Within n a             == what the answer a gives, if it gives a vector, is one of n cells
--   Made n vs rs           == rs are rings of n cells with the vectors vs
--   RingOf p n v r         == r is a ring of n cells with the vector v, its own polynomial is p, and it keeps the laws of a
--                             generator
--   Rings p n vs rs        == one such ring for each of the vectors vs
--   Promise p cs m ds o    == a search on p answers the calls cs, a rig over the generator m answers the calls ds, and each
--                             vector given makes a ring, all as the laws say; the outcome o holds answers and rings
--   Keeps p cs m ds r      == r is such an outcome, or refuses p, or there was no memory
use Rattle.std.specs.Prelude.{◌≡◌, ℕ, ◌^◌, ◌<◌, List, Some, None, Ok, Err, vec_items, Result, filter_map, IfSome}
use Rattle.std.specs.List.{AllZip}
use Rattle.gf2.specs.Algebra.{Degree}
use Rattle.rings.specs.declared.ring.Ring.{Ring}
use Rattle.rings.specs.Cells.{ring_next}
use Rattle.rings.specs.Questions.{polynomial_refusal}
use Rattle.generators.specs.Generators.{Meaning, Lawful, plain}
use Rattle.runs.specs.Runs.{Obeys}
use Rattle.rig.specs.Runs.{RigLaw}
use Rattle.rig.specs.declared.run.Call as rig-call
use Rattle.service.specs.declared.searches.Call.{Call}
use Rattle.service.specs.declared.promise.Outcome.{Outcome}
use Rattle.service.specs.declared.promise.Failure.{Failure}
use Rattle.service.specs.declared.promise.Failure.TheVariants.{Refused, NoMemory}
use Rattle.service.specs.Searches.{Answered, given_by, SearchLaw}

abbrev pub vectors : List Answered → List ℕ
vectors rs = filter_map given_by rs

-- the vector that an answer gives, if it gives one, is a vector of n cells
abbrev pub Within : ℕ → Answered → Type 0
Within n a = IfSome (given_by a) (λ v. v < 2 ^ n)

-- a ring of n cells for each vector
abbrev pub Made : ℕ → List ℕ → List Ring → Type 0
Made n vs rs = AllZip (λ v r. (r.vector.cells ≡ n) × (r.vector.rules ≡ v)) vs rs

pub record RingOf (p n v : ℕ) (r : Ring) : Type 0 where
  pub cells : r.vector.cells ≡ n
  pub rules : r.vector.rules ≡ v
  pub polynomial : r.polynomial ≡ p
  pub lawful : Lawful (plain r.polynomial r.vector.cells (ring_next r.vector.cells r.vector.rules))

abbrev pub Rings : ℕ → ℕ → List ℕ → List Ring → Type 0
Rings p n vs rs = AllZip (RingOf p n) vs rs

pub record Promise (p : ℕ) (cs : List Call) (m : Meaning) (ds : List rig-call.Call) (o : Outcome) : Type 0 where
  pub accepted : polynomial_refusal p ≡ None
  pub cells : ℕ
  pub degree : Degree p cells
  pub search : Obeys (SearchLaw p cells) cs (vec_items o.search)
  pub rig : Obeys (RigLaw m) ds (vec_items o.rig)
  pub rings : Rings p cells (vectors (vec_items o.search)) (vec_items o.rings)

abbrev pub Keeps : ℕ → List Call → Meaning → List rig-call.Call → Result Outcome Failure → Type 0
Keeps p cs m ds (Ok o) = Promise p cs m ds o
Keeps p cs m ds (Err (Refused q)) = polynomial_refusal p ≡ Some q
Keeps p cs m ds (Err NoMemory) = Unit {0}
