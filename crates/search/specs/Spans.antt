-- Words given by a base and directions.
--
--   word_at span t     == the base plus the directions that t chooses
--   Covers span y      == some t below the number of words gives y
--   Complete p n span  == for each vector of n cells with the polynomial p, it is not so that no t below the number of words
--                         gives the polynomial of its first n − 1 cells
use Rattle.std.specs.Prelude.{◌≡◌, ℕ, ◌^◌, ◌<◌, ◌≢◌, bit_xor}
use Rattle.rings.specs.Vectors.{recurrence, recurrence_from}
use Rattle.generators.specs.Chosen.{chosen}
use Rattle.search.specs.declared.span.Span.{Span}

abbrev pub word_at : Span → ℕ → ℕ
word_at span t = bit_xor span.base (chosen 0 bit_xor span.directions t)

abbrev pub Covers : Span → ℕ → Type 0
Covers span y = (t : ℕ) × (t < span.words) × (y ≡ word_at span t)

abbrev pub Complete : ℕ → ℕ → Span → Type 0
Complete p n span =
    (v : ℕ) → v < 2 ^ n → recurrence n v ≡ p → ((t : ℕ) → t < span.words → recurrence_from n v ≢ word_at span t) → ⊥
