use Rattle.std.proofs.Common.{◌≡◌, ◌+◌, List, map, sym, ap, ◌∙◌, subst, arith}
use Rattle.gf2.specs.Algebra.{Degree}
use Rattle.gf2.proofs.Words.{degree_at_most}
use Rattle.search.specs.declared.equations.Equation.{Equation}
use Rattle.search.specs.declared.expressions.Expressions.{Expressions}
use Rattle.search.specs.Systems.{Solved, equation, substituted, value, replaced}
use Rattle.search.proofs.Systems.{solved_kept, solved_none, solved_replaced}
use Rattle.search.proofs.system.System.solve.Goals as goal
use Rattle.search.proofs.system.System.solve.Goals.{in-Some, in-None+else-value-eq1}

pub replace-requires : goal.replace-requires
replace-requires c = omega (arith, degree_at_most c.substituted-reduced.result.word c.in-Some.parameter c.in-Some.ensures (omega arith))

pub returns-then-value-eq1 : goal.returns-then-value-eq1
returns-then-value-eq1 c =
    let l = c.loop-k in
    let f : c.substituted-reduced.result ≡ substituted l.expressions.bits (equation c.args.self.now.columns c.args.self.now.constant l.k) =
    c.substituted-reduced.ensures ∙ ap (substituted l.expressions.bits) c.equation.ensures in
    solved_none 32 c.args.self.now.columns c.args.self.now.constant l.k l.expressions.bits l.invariant
    (sym (ap (λ (e : Equation). e.word) f) ∙ c.in-None.ensures)
    (sym (ap (λ (e : Equation). value e 0) f) ∙ sym c.value.ensures ∙ c.if-value-eq1.true)

pub loop-k-preserved : goal.loop-k-preserved
loop-k-preserved c =
    let l = c.loop-k in
    let g = c.substituted-reduced.result in
    let f : g ≡ substituted l.expressions.bits (equation c.args.self.now.columns c.args.self.now.constant l.k) =
    c.substituted-reduced.ensures ∙ ap (substituted l.expressions.bits) c.equation.ensures in
    let Next : List Equation → Type 0 = Solved 32 c.args.self.now.columns c.args.self.now.constant (l.k + 1) in
    elim c.match-degree.branch [
      | in-Some w ↦
          solved_replaced 32 c.args.self.now.columns c.args.self.now.constant l.k l.expressions.bits l.invariant w.in-Some.parameter c.match-degree.expressions.bits
          (subst (λ (e : Equation). Degree e.word w.in-Some.parameter) f w.in-Some.ensures)
          (ap (λ (x : Expressions). x.bits) w.expressions-is ∙ w.replace.ensures ∙ ap (λ (e : Equation). map (replaced w.in-Some.parameter e) l.expressions.bits) f)
      | in-None+else-value-eq1 w ↦
          subst Next (ap (λ (x : Expressions). x.bits) (sym w.expressions-is))
          (solved_kept 32 c.args.self.now.columns c.args.self.now.constant l.k l.expressions.bits l.invariant
          (sym (ap (λ (e : Equation). e.word) f) ∙ w.in-None.ensures)
          (λ h. w.if-value-eq1.false (w.value.ensures ∙ ap (λ (e : Equation). value e 0) f ∙ h)))
    ]
