use Rattle.std.proofs.Common.{◌≡◌, ◌/◌, ◌^◌, drop}
use Rattle.generators.specs.Chosen.{chosen}
use Rattle.generators.proofs.sum.chosen_sum.Given as goal

-- what is left gives the answer
abbrev pub invariant-loop-place : goal.invariant-loop-place
invariant-loop-place g l =
    let t = g.T.Summand in
    t.plus l.sum (chosen t.zero t.plus (drop l.place l.items) (l.word / 2 ^ l.place)) ≡ chosen t.zero t.plus l.items l.word
