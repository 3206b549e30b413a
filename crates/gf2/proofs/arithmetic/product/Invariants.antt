use Rattle.std.proofs.Common.{◌≡◌, ◌/◌, ◌^◌}
use Rattle.gf2.specs.Algebra.{product}
use Rattle.gf2.proofs.arithmetic.product.Given as goal

-- r is the product with the digits of a from i on
abbrev pub invariant-loop-i : goal.invariant-loop-i
invariant-loop-i l = l.r ≡ product (l.a / 2 ^ l.i) l.b
