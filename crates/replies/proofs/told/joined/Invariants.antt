use Rattle.std.proofs.Common.{◌≡◌, ◌++◌, take, string_bytes}
use Rattle.replies.specs.Texts.{ShownBy}
use Rattle.replies.proofs.Joined.{later}
use Rattle.replies.proofs.told.joined.Given as goal

-- the items so far are told, each after a separator
abbrev pub invariant-loop-item : goal.invariant-loop-item
invariant-loop-item g l =
    ShownBy g.T.Display.output (λ show. string_bytes l.text ≡ string_bytes l.initial.text ++ later show l.separator (take l.item-index l.rest))
