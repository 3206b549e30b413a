use Rattle.std.proofs.Common.{◌≡◌, ◌++◌, map, take, drop}
use Rattle.search.specs.Systems.{replaced}
use Rattle.search.proofs.expressions.Expressions.replace.Given as goal

-- the expressions before x are replaced, the others as they were
abbrev pub invariant-loop-x : goal.invariant-loop-x
invariant-loop-x l =
    l.x-items
    ≡ map (replaced l.parameter l.e) (take l.x-index l.initial.x-items) ++ drop l.x-index l.initial.x-items
