use Rattle.std.proofs.Common.{◌≡◌, ℕ, ◌%◌, ◌^◌, sym, refl, ap, ◌∙◌, mod-eq_of_lt, arith}
use lib.Bits.{bit_xor}
use Rattle.std.proofs.lemmas.Nat.{one_shl}
use Rattle.search.specs.Systems.{evaluate}
use Rattle.search.proofs.Spans.{spans_none, spans_same, spans_more}
use Rattle.search.proofs.span.Span.of.Goals as goal
use Rattle.search.proofs.span.Span.of.Goals.{then-direction-ne0, else-direction-ne0}

pub loop-j-init : goal.loop-j-init
loop-j-init c = spans_none c.args.expressions.now.bits c.evaluate-base.result c.evaluate-base.ensures _ refl

pub loop-j-preserved : goal.loop-j-preserved
loop-j-preserved c =
    let l = c.loop-j in
    let es = c.args.expressions.now.bits in
    let base = c.evaluate-base.result in
    let at_zero = c.evaluate-base.ensures in
    let direction : ℕ = bit_xor c.evaluate.result base in
    let is : direction ≡ bit_xor (evaluate es (2 ^ l.j)) base =
    ap (λ (w : ℕ). bit_xor w base) (c.evaluate.ensures ∙ ap (evaluate es) (one_shl l.j 32 (omega arith))) in
    elim c.if-direction-ne0.branch [
      | then-direction-ne0 w ↦
          rw (w.dimension-is, w.directions-is) (spans_more es base at_zero l.j l.dimension direction l.directions is l.invariant (omega arith))
      | else-direction-ne0 w ↦
          rw (w.dimension-is, w.directions-is) (spans_same es base at_zero l.j l.dimension direction l.directions is l.invariant w.if-direction-ne0.false)
    ]

pub returns : goal.returns
returns c y h =
    let l = c.loop-j in
    let whole : l.j ≡ c.args.modulus.degree = omega arith in
    let found = l.invariant.covers y in
    let all : y % 2 ^ l.j ≡ y = ap (λ (n : ℕ). y % 2 ^ n) whole ∙ mod-eq_of_lt h in
    (found.0, rw (one_shl l.dimension 32 (omega (arith, l.invariant.few))) found.1, ap (evaluate c.args.expressions.now.bits) (sym all) ∙ found.2)
