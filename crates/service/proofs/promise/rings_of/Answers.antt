use Rattle.std.proofs.Common.{vec_items, rules}
use Rattle.service.proofs.Given.{turn_vector, turn_none}
use Rattle.service.proofs.promise.rings_of.Goals as goal
use Rattle.service.proofs.promise.rings_of.Goals.{in-Some+in_ok-push, in_default}

pub loop-answer-preserved : goal.loop-answer-preserved
loop-answer-preserved c =
    let l = c.loop-answer in
    let made = vec_items l.rings in
    elim c.match-vector_of.branch [
      | in-Some+in_ok-push w ↦
          rw (w.rings-is, w.in_ok-push.ensures.items)
          (turn_vector c.args.cells c.args.answers.now l.answer-index _ c.loop-answer-test.true c.vector_of.result c.vector_of.ensures made l.invariant
          w.in-Some.vector w.unwrap.result w.in-Some.is (search rules) (search rules))
      | in_default w ↦
          rw w.rings-is
          (turn_none c.args.cells c.args.answers.now l.answer-index _ c.loop-answer-test.true c.vector_of.result c.vector_of.ensures made l.invariant (search rules))
    ]
