use Rattle.std.proofs.Common.{◌≡◌}
use Rattle.words.specs.Words.{left}
use Rattle.commands.specs.Commands.{layers_over, layers_of}
use Rattle.commands.proofs.parsing.all_layers.Given as goal

-- the words that are left, over what was found, make what all words make
abbrev pub invariant-loop-word : goal.invariant-loop-word
invariant-loop-word l =
    goal.iterator-loop-word.can_next l.word-iterator ×
    goal.iterator-loop-word.is_finite l.word-iterator ×
    (layers_over l.found (left l.word-iterator) ≡ layers_of (left l.fn.rest))
