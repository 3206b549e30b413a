use Rattle.std.proofs.Common.{◌/◌, ◌^◌}
use Rattle.gf2.specs.Algebra.{Leaves}
use Rattle.gf2.proofs.modulus.Modulus.remainder.Given as goal

-- r is what the digits of a from i on leave
abbrev pub invariant-loop-i : goal.invariant-loop-i
invariant-loop-i l = Leaves (l.a / 2 ^ l.i) l.self.polynomial l.r
