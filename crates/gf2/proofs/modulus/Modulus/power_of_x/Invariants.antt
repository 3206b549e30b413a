use Rattle.std.proofs.Common.{◌/◌, ◌^◌}
use Rattle.gf2.specs.Algebra.{power_of_x, Leaves}
use Rattle.gf2.proofs.modulus.Modulus.power_of_x.Given as goal

-- r is what x to the digits of e from i on leaves
abbrev pub invariant-loop-i : goal.invariant-loop-i
invariant-loop-i l = Leaves (power_of_x (l.e / 2 ^ l.i)) l.self.polynomial l.r
