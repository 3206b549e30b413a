use Rattle.std.proofs.Common.{ℕ, ◌-◌, ◌*◌, ◌/◌, ◌^◌, ◌<◌, sym, ap, ◌∙◌, subst, ap₂, arith}
use native.Mathlib.Nat.{div-eq_of_lt}
use lib.Bits.{bit_xor}
use Rattle.gf2.specs.Algebra.{product}
use Rattle.gf2.proofs.Ring.{mul_one_l, mul_comm, mul_assoc, mul_sum_l, mul_zero_l}
use Rattle.gf2.proofs.Derivation.{derivative_additive, derivative_product}
use Rattle.gf2.proofs.Division.{degree_product}
use Rattle.gf2.proofs.Words.{product_digit, digit_below, masked, product_shift, from_lowest}
use Rattle.gf2.proofs.arithmetic.product.Goals as goal

pub loop-i-init : goal.loop-i-init
loop-i-init c = sym (ap (λ (z : ℕ). product z c.from-b.result) (div-eq_of_lt {n = c.args.a} {m = 2 ^ 32} (omega arith)) ∙ mul_zero_l c.from-b.result)

pub loop-i-preserved : goal.loop-i-preserved
loop-i-preserved c =
    let b = c.from-b.result in
    let digit = c.from-digit.ensures in
    let low = subst (λ (d : ℕ). d < 2) (sym digit) (digit_below (c.args.a / 2 ^ (c.loop-i.i - 1))) in
    ap₂ bit_xor
    (product_shift c.args.a c.loop-i.i b c.loop-i.r (omega arith) (omega arith) c.loop-i-test.true c.loop-i.invariant)
    (masked 64 c.from-digit.result b c.wrapping_neg.result low (omega arith) (omega arith) c.wrapping_neg.ensures ∙ ap (λ (d : ℕ). d * b) digit)
    ∙ sym (product_digit c.args.a c.loop-i.i c.loop-i-test.true b)

pub returns : goal.returns
returns c =
    record {
      value = c.loop-i.invariant ∙ ap (λ (z : ℕ). product z c.from-b.result) (from_lowest c.args.a c.loop-i.i c.loop-i-test.false) ∙ ap (product c.args.a) c.from-b.ensures;
      ring = record { one = mul_one_l; commutes = mul_comm; associates = mul_assoc; distributes = λ a b c. mul_sum_l c a b; degrees = degree_product };
      derivation = record { sum = derivative_additive; leibniz = derivative_product };
    }
