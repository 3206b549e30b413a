-- The line that answers a line.
--
--   said q text        == the text, or the refusal if there is one
--   reply_of c         == the answer to the command c
--   missed_text n e    == the line that answers line n where it is not understood, and e was expected
--   line_text n line r == the line that answers line n, which reads as r
--   answer_line n line == the line that answers line n
use Rattle.std.specs.Prelude.{ℕ, List, ◌++◌, Some, None, Ok, Err, codes, decimal, Option, Result}
use Rattle.rings.specs.declared.refusal.Refusal.{Refusal}
use Rattle.rings.specs.Questions.{vector_refusal}
use Rattle.rings.specs.Texts.{refusal_text}
use Rattle.rings.specs.Vectors.{polynomial_of}
use Rattle.words.specs.Words.{words}
use Rattle.commands.specs.declared.command.Command.{Command}
use Rattle.commands.specs.declared.command.Command.TheVariants.{Multiply, Pattern, Register}
use Rattle.commands.specs.declared.name.Name.{Name}
use Rattle.commands.specs.Commands.{understood, expected_of}
use Rattle.rig.specs.Rigs.{shown_at}
use Rattle.commands.specs.Patterns.{ring_refusal, ring_meaning, register_refusal, register_meaning}

abbrev pub said : Option Refusal → List ℕ → List ℕ
said None text = text
said (Some q) text = refusal_text q

abbrev pub reply_of : Command → List ℕ
reply_of (Multiply cells vector) = said (vector_refusal cells vector) (decimal (polynomial_of cells vector))
reply_of (Pattern cells vector m) =
    said (ring_refusal cells vector m.seed m.clock) (decimal (shown_at (ring_meaning cells vector m.layers) m.seed m.clock))
reply_of (Register polynomial m) =
    said (register_refusal polynomial m.seed m.clock) (decimal (shown_at (register_meaning polynomial m.layers) m.seed m.clock))

abbrev pub missed_text : ℕ → List ℕ → List ℕ
missed_text n expected = codes "line " ++ (decimal n ++ (codes ": not understood, expected " ++ expected))

abbrev pub line_text : ℕ → List ℕ → Result Command (Option Name) → List ℕ
line_text n line (Ok c) = line ++ (codes ": " ++ reply_of c)
line_text n line (Err name) = missed_text n (expected_of name)

abbrev pub answer_line : ℕ → List ℕ → List ℕ
answer_line n line = line_text n line (understood (words line))
