-- What the commands for service engineers ask for: the pattern that a generator must show at a clock.
--
--   start_refusal n w c        == the questions to a seed w and a clock c of a generator of n cells, in their order
--   ring_refusal n v w c       == the questions to a ring, its seed and its clock
--   ring_meaning n v l         == the ring of n cells with the vector v, under the layers l
--   top_bit p                  == the place of the highest bit of a word, the degree of a polynomial
--   register_refusal p w c     == the questions to a register, its seed and its clock
--   register_meaning p l       == the register of the polynomial p, under the layers l
use Rattle.std.specs.Prelude.{ℕ, ◌-◌, Some, Option}
use Rattle.std.specs.Int.Count.{count_leading_zeros}
use Rattle.rings.specs.declared.refusal.Refusal.{Refusal}
use Rattle.rings.specs.Cells.{ring_next}
use Rattle.rings.specs.Questions.{else_asked, vector_refusal, polynomial_refusal}
use Rattle.rings.specs.Vectors.{polynomial_of}
use Rattle.generators.specs.Generators.{Meaning, plain}
use Rattle.generators.specs.Piles.{piled}
use Rattle.generators.specs.Registers.{register_next}
use Rattle.rig.specs.Rigs.{seed_refusal, move_refusal}
use Rattle.commands.specs.declared.command.Layers.{Layers}

abbrev pub start_refusal : ℕ → ℕ → ℕ → Option Refusal
start_refusal n w c = else_asked (seed_refusal n w) (move_refusal (Some w) 0 c)

abbrev pub ring_refusal : ℕ → ℕ → ℕ → ℕ → Option Refusal
ring_refusal n v w c = else_asked (vector_refusal n v) (start_refusal n w c)

abbrev pub ring_meaning : ℕ → ℕ → Layers → Meaning
ring_meaning n v l = piled l.doublers l.taps (plain (polynomial_of n v) n (ring_next n v))

abbrev pub top_bit : ℕ → ℕ
top_bit p = 31 - count_leading_zeros 32 p

abbrev pub register_refusal : ℕ → ℕ → ℕ → Option Refusal
register_refusal p w c = else_asked (polynomial_refusal p) (start_refusal (top_bit p) w c)

abbrev pub register_meaning : ℕ → Layers → Meaning
register_meaning p l = piled l.doublers l.taps (plain p (top_bit p) (register_next p (top_bit p)))
