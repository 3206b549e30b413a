use Rattle.std.proofs.Common.{ℕ, ◌/◌, ◌^◌}
use Rattle.gf2.specs.Algebra.{product, Leaves}
use Rattle.gf2.proofs.modulus.Modulus.multiple.Given as goal

-- r is what the digits of a from i on, times c, leave
abbrev pub invariant-loop-i : goal.invariant-loop-i
invariant-loop-i l = (c : ℕ) → Leaves c l.self.polynomial l.b → Leaves (product (l.a / 2 ^ l.i) c) l.self.polynomial l.r
