use Rattle.std.proofs.Common.{◌^◌, ◌<◌, arith}
use lib.Pow.{pow-lt}
use Rattle.gf2.proofs.Division.{leaves_self, leaves_square}
use Rattle.gf2.proofs.Words.{past_length, power_zero, power_clear, power_set}
use Rattle.gf2.proofs.modulus.Modulus.power_of_x.Goals as goal

pub loop-i-init : goal.loop-i-init
loop-i-init c =
    let m = c.args.self.now in
    let one : 2 ^ 0 < 2 ^ m.degree = pow-lt m.low in
    rw (past_length 64 c.args.e (omega arith), power_zero) (leaves_self m.polynomial m.degree 1 m.leading one)

pub loop-i-preserved : goal.loop-i-preserved
loop-i-preserved c =
    rw (power_clear c.args.e c.loop-i.i c.loop-i-test.true c.if-e-i-eq1.false)
    (leaves_square _ _ c.loop-i.r _ c.loop-i.invariant c.multiple-r.ensures)

pub loop-i-preserved-then-e-i-eq1 : goal.loop-i-preserved-then-e-i-eq1
loop-i-preserved-then-e-i-eq1 c =
    rw (power_set c.args.e c.loop-i.i c.loop-i-test.true c.if-e-i-eq1.true)
    (c.times_x-r.ensures _ (leaves_square _ _ c.loop-i.r _ c.loop-i.invariant c.multiple-r.ensures))
