use Rattle.std.proofs.Common.{◌-◌, ◌*◌, ◌/◌, ◌^◌, arith, pow_pos}
use lib.Bits.{bit_and}
use Rattle.gf2.specs.Algebra.{product}
use Rattle.gf2.proofs.Ring.{mul_zero_l}
use Rattle.gf2.proofs.Division.{leaves_self, leaves_sum, leaves_digit_times}
use Rattle.gf2.proofs.Words.{past_length, product_digit, digit_below}
use Rattle.gf2.proofs.modulus.Modulus.multiple.Goals as goal

pub loop-i-init : goal.loop-i-init
loop-i-init c d l =
    let m = c.args.self.now in
    rw (past_length 32 c.args.a (omega arith), mul_zero_l) (leaves_self m.polynomial m.degree 0 m.leading (pow_pos m.degree))

pub loop-i-preserved : goal.loop-i-preserved
loop-i-preserved c d l =
    let p = c.args.self.now.polynomial in
    let digit = bit_and (c.args.a / 2 ^ (c.loop-i.i - 1)) 1 in
    let low = digit_below (c.args.a / 2 ^ (c.loop-i.i - 1)) in
    let before = product (c.args.a / 2 ^ c.loop-i.i) d in
    rw (product_digit c.args.a c.loop-i.i c.loop-i-test.true d, c.scaled.ensures low)
    (leaves_sum (before * 2) (digit * d) p c.times_x.result (digit * c.args.b)
    (c.times_x.ensures before (c.loop-i.invariant d l)) (leaves_digit_times digit d p c.args.b low l))
