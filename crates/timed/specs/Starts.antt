-- The start of a measurement.
--
--   start_refusal n v s  == the questions to a ring of n cells with the vector v, and then to its state s
use Rattle.std.specs.Prelude.{ℕ, Option}
use Rattle.rings.specs.declared.refusal.Refusal.{Refusal}
use Rattle.rings.specs.Questions.{else_asked, vector_refusal, word_refusal}

abbrev pub start_refusal : ℕ → ℕ → ℕ → Option Refusal
start_refusal n v s = else_asked (vector_refusal n v) (word_refusal n s)
