use Rattle.std.proofs.Common.{◌≡◌, ◌++◌, take, string_bytes, codes}
use Rattle.replies.specs.Texts.{answered_text, ShownBy}
use Rattle.replies.proofs.Joined.{later}
use Rattle.replies.proofs.outcomes.answers_text.Given as goal

-- the answers so far are told, each after a comma
abbrev pub invariant-loop-answer : goal.invariant-loop-answer
invariant-loop-answer g l =
    ShownBy g.A.Display.output
    (λ show. string_bytes l.text ≡ string_bytes l.initial.text ++ later (answered_text show) (codes ", ") (take l.answer-index l.rest))
