use Rattle.std.proofs.Common.{◌≡◌, ℕ, ◌+◌, ◌-◌, ◌/◌, sym, ap, ◌∙◌, arith}
use lib.Bits.{bit_xor}
use Rattle.generators.specs.Piles.{tapped_word}
use Rattle.generators.specs.Heights.{taps_none, taps_more}
use Rattle.generators.proofs.pile.tapped_often.Goals as goal

pub loop-done-preserved : goal.loop-done-preserved
loop-done-preserved c =
    let l = c.loop-done in
    let left : c.args.taps - (l.done + 1) ≡ c.args.taps - l.done - 1 = omega arith in
    ap (λ (t : ℕ). tapped_word t (bit_xor l.shown (l.shown / 2))) left ∙ sym (taps_more (c.args.taps - l.done) l.shown (omega arith)) ∙ l.invariant

pub returns : goal.returns
returns c =
    let l = c.loop-done in
    let none : c.args.taps - l.done ≡ 0 = omega arith in
    sym (taps_none l.shown) ∙ ap (λ (t : ℕ). tapped_word t l.shown) (sym none) ∙ l.invariant
