use Rattle.std.proofs.Common.{◌^◌}
use Rattle.gf2.specs.Algebra.{power_of_x, Leaves}
use Rattle.gf2.proofs.modulus.Modulus.frobenius_of_x.Given as goal

-- r is what x squared i times over leaves
abbrev pub invariant-loop-i : goal.invariant-loop-i
invariant-loop-i l = Leaves (power_of_x (2 ^ l.i)) l.self.polynomial l.r
