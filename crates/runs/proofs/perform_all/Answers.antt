use Rattle.std.proofs.Common.{sym, subst, arith}
use Rattle.runs.proofs.Turns.{Sofar, sofar_none, sofar_more, sofar_all}
use Rattle.runs.proofs.perform_all.Goals as goal

pub loop-call-init : goal.loop-call-init
loop-call-init g c =
    let p = c.args.performer.now in
    let cs = c.args.calls.now in
    let L = g.P.Performer.law p in
    let tied = g.P.Performer.tied p in
    (omega arith, λ h d a x. x, λ t. subst (Sofar L tied cs 0) (sym c.in_ok-answers.ensures.items) (sofar_none L tied cs t))

pub loop-call-preserved : goal.loop-call-preserved
loop-call-preserved g c =
    let cs = c.args.calls.now in
    let l = c.loop-call in
    let L = g.P.Performer.law c.args.performer.now in
    let M = g.P.Performer.law l.performer in
    let was = g.P.Performer.tied l.performer in
    let tied = g.P.Performer.tied c.perform-answer.new.self in (
      omega arith,
      λ h d a x. l.invariant.1 h d a (c.perform-answer.ensures.same h d a x),
      λ t. subst (Sofar L tied cs _) (sym c.in_ok-push.ensures.items)
          (sofar_more L M was tied cs l.call-index _ c.call-item.result c.perform-answer.result c.loop-call-test.true c.call-item.is l.invariant.1
          c.perform-answer.ensures.right (l.invariant.2 t)),
    )

pub returns : goal.returns
returns g c t =
    let l = c.loop-call in
    sofar_all _ (g.P.Performer.tied l.performer) c.args.calls.now l.call-index _ (omega arith) (l.invariant.2 t)
