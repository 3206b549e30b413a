use Rattle.std.proofs.Common.{◌≡◌, ◌-◌}
use Rattle.generators.specs.Piles.{tapped_word}
use Rattle.generators.proofs.pile.tapped_often.Given as goal

-- the taps that are left show of shown what all show of the word
abbrev pub invariant-loop-done : goal.invariant-loop-done
invariant-loop-done l = tapped_word (l.taps - l.done) l.shown ≡ tapped_word l.taps l.word
