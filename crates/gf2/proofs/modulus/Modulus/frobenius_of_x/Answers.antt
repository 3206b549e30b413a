use Rattle.gf2.proofs.Division.{leaves_square}
use Rattle.gf2.proofs.Words.{power_one, power_square}
use Rattle.gf2.proofs.modulus.Modulus.frobenius_of_x.Goals as goal

pub loop-i-init : goal.loop-i-init
loop-i-init c = rw power_one c.remainder-r.ensures.value

pub loop-i-preserved : goal.loop-i-preserved
loop-i-preserved c = rw (power_square c.loop-i.i) (leaves_square _ _ c.loop-i.r _ c.loop-i.invariant c.multiple-r.ensures)
