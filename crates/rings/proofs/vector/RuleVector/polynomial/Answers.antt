use Rattle.std.proofs.Common.{◌≡◌, ℕ, ◌+◌, ◌*◌, ◌%◌, ◌^◌, sym, ◌∙◌, subst, arith}
use lib.Bits.{bit_xor}
use Rattle.gf2.specs.Algebra.{Degree}
use Rattle.rings.specs.Vectors.{recurrence}
use Rattle.rings.proofs.Degrees.{Pair, pair_first, pair_last, pair_150, pair_90, recurrence_degree}
use Rattle.rings.proofs.Recurrence.{polynomial_recurrence}
use Rattle.rings.proofs.vector.RuleVector.polynomial.Goals as goal
use Rattle.rings.proofs.vector.RuleVector.polynomial.Goals.{then-self-k-eq1, else-self-k-eq1}

pub loop-k-init : goal.loop-k-init
loop-k-init c = pair_first c.args.self.now.rules

pub loop-k-preserved : goal.loop-k-preserved
loop-k-preserved c =
    let v = c.args.self.now.rules in
    let l = c.loop-k in
    let turned : ℕ → Type 0 = λ own. Pair v (l.k + 1) l.current (bit_xor (bit_xor (l.current * 2 % 2 ^ 32) own) l.before) in
    elim c.if-self-k-eq1.branch [
      | then-self-k-eq1 w ↦ subst turned (sym w.own-is) (pair_150 v l.k l.before l.current (omega arith) l.invariant w.if-self-k-eq1.true)
      | else-self-k-eq1 w ↦ subst turned (sym w.own-is) (pair_90 v l.k l.before l.current (omega arith) l.invariant w.if-self-k-eq1.false)
    ]

pub returns : goal.returns
returns c =
    let v = c.args.self.now in
    let l = c.loop-k in
    let whole : l.k ≡ v.cells = omega arith in
    let is : l.current ≡ recurrence v.cells v.rules =
    subst (λ (n : ℕ). l.current ≡ recurrence n v.rules) whole (pair_last v.rules l.k l.before l.current l.invariant) in
    record {
      value = is ∙ sym (polynomial_recurrence v.cells v.rules);
      recurrence = is;
      degree = subst (λ (p : ℕ). Degree p v.cells) (sym is) (recurrence_degree v.cells v.rules);
    }
