use Rattle.std.proofs.Common.{take, vec_items}
use Rattle.service.specs.Promises.{vectors, Made}
use Rattle.service.proofs.promise.rings_of.Given as goal

-- the answers so far have their rings
abbrev pub invariant-loop-answer : goal.invariant-loop-answer
invariant-loop-answer l = Made l.cells (vectors (take l.answer-index l.answers)) (vec_items l.rings)
