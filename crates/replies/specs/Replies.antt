-- The line that answers a line.
--
--   reply_of q         == the answer to what a line asks for
--   line_text n line r == the line that answers line n, which reads as r
--   answer_line n line == the line that answers line n
use Rattle.std.specs.Prelude.{ℕ, List, ◌++◌, Ok, Err, codes, Option, Result}
use Rattle.words.specs.Words.{words}
use Rattle.commands.specs.Replies.{missed_text, reply_of as plain_reply_of}
use Rattle.requests.specs.declared.name.Name.{Name}
use Rattle.requests.specs.Commands.{Asked, plain, vectors, run, understood}
use Rattle.requests.specs.Names.{expected_of}
use Rattle.replies.specs.Outcomes.{run_text}
use Rattle.replies.specs.Vectors.{vectors_text}

abbrev pub reply_of : Asked → List ℕ
reply_of (plain c) = plain_reply_of c
reply_of (vectors polynomial pins) = vectors_text polynomial pins
reply_of (run polynomial calls) = run_text polynomial calls

abbrev pub line_text : ℕ → List ℕ → Result Asked (Option Name) → List ℕ
line_text n line (Ok q) = line ++ (codes ": " ++ reply_of q)
line_text n line (Err name) = missed_text n (expected_of name)

abbrev pub answer_line : ℕ → List ℕ → List ℕ
answer_line n line = line_text n line (understood (words line))
