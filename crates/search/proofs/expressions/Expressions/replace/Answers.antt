use Rattle.std.proofs.Common.{◌<◌, length, set, ap, ◌∙◌, arith}
use Rattle.search.specs.declared.equations.Equation.{Equation}
use Rattle.search.proofs.Systems.{replaced_set, replaced_clear}
use Rattle.search.proofs.expressions.Expressions.replace.Goals as goal
use Rattle.search.proofs.expressions.Expressions.replace.Goals.{then-x-parameter-eq1, else-x-parameter-eq1}

pub loop-x-preserved : goal.loop-x-preserved
loop-x-preserved c =
    let l = c.loop-x in
    let xs = c.args.self.now.bits in
    let within : l.x-index < length xs = omega arith in
    elim c.if-x-parameter-eq1.branch [
      | then-x-parameter-eq1 w ↦
          w.x-items-is ∙ ap (λ (x : Equation). set l.x-items l.x-index x) w.plus.ensures
          ∙ replaced_set c.args.parameter c.args.e xs l.x-items l.x-index within l.invariant w.if-x-parameter-eq1.true
      | else-x-parameter-eq1 w ↦
          w.x-items-is ∙ replaced_clear c.args.parameter c.args.e xs l.x-items l.x-index within l.invariant w.if-x-parameter-eq1.false
    ]
