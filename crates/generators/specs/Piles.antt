-- Piles of layers over one generator, whatever their order: a doubler changes only the step, a tap only what is shown.
--
--   tapped_word t w  == w as t taps show it
--   piled d t m      == d doublers and t taps over m: a step is 2^d steps of m
use Rattle.std.specs.Prelude.{ℕ, zero, suc, ◌/◌, ◌^◌, bit_xor}
use Rattle.generators.specs.Generators.{Meaning, iterate}

unfoldable pub tapped_word : ℕ → ℕ → ℕ
tapped_word zero w = w
tapped_word (suc t) w = tapped_word t (bit_xor w (w / 2))

abbrev pub piled : ℕ → ℕ → Meaning → Meaning
piled d t m = record {
  polynomial = m.polynomial;
  cells = m.cells;
  next = λ s. iterate m.next (2 ^ d) s;
  shown = λ s. tapped_word t (m.shown s);
}
