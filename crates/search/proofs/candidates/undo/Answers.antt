use Rattle.std.proofs.Common.{◌≡◌, ℕ, suc, ◌-◌, ◌*◌, ◌/◌, ◌%◌, ◌^◌, sym, ap, ◌∙◌, subst, lt_of_lt_of_le, one-mul, zero-mul, arith, pow_mono}
use lib.Bits.{bit_and, bit_xor}
use Rattle.gf2.proofs.Words.{digit_below}
use Rattle.search.proofs.Undone.{Undone, undone_start, undone_next}
use Rattle.search.proofs.candidates.undo.Goals as goal
use Rattle.search.proofs.candidates.undo.Goals.{then-rule-eq1, else-rule-eq1}

pub loop-k-init : goal.loop-k-init
loop-k-init c v h e f = rw (c.degree-k.ensures.value, c.polynomial-above.ensures) (undone_start c.args.modulus.degree v c.args.modulus.polynomial c.args.y h e f)

pub loop-k-preserved : goal.loop-k-preserved
loop-k-preserved c v h e f =
    let l = c.loop-k in
    let k = l.k - 1 in
    let whole : l.k ≡ suc k = omega arith in
    let u = subst (λ (n : ℕ). Undone v n l.above l.below l.vector) whole (l.invariant v h e f) in
    let rule : ℕ = bit_and (bit_xor l.above (l.below * 2 % 2 ^ 32) / 2 ^ k) 1 in
    let low = digit_below (bit_xor l.above (l.below * 2 % 2 ^ 32) / 2 ^ k) in
    let own : c.if-rule-eq1.own ≡ rule * l.below =
    elim c.if-rule-eq1.branch [
      | then-rule-eq1 w ↦ w.own-is ∙ sym (ap (λ (d : ℕ). d * l.below) w.if-rule-eq1.true ∙ one-mul l.below)
      | else-rule-eq1 w ↦
          let none : rule ≡ 0 = omega (arith, low, w.if-rule-eq1.false) in
          w.own-is ∙ sym (ap (λ (d : ℕ). d * l.below) none ∙ zero-mul l.below)
    ] in
    undone_next v k l.above l.below l.vector (omega arith) (lt_of_lt_of_le h (pow_mono c.args.modulus.high)) u c.if-rule-eq1.own own
