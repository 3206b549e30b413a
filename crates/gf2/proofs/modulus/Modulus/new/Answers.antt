use Rattle.std.proofs.Common.{refl, arith}
use Rattle.gf2.proofs.Words.{degree_at_most, degree_two}
use Rattle.gf2.proofs.modulus.Modulus.new.Goals as goal

pub invariant_of-result : goal.invariant_of-result
invariant_of-result c =
    let leading = c.in-Some.ensures in
    record { leading = leading; low = c.if-degree-ge1.true; high = degree_at_most c.args.polynomial c.in-Some.degree leading (omega arith) }

pub returns-in-Some : goal.returns-in-Some
returns-in-Some c = (degree_two c.args.polynomial c.in-Some.degree c.in-Some.ensures c.if-degree-ge1.true, refl)
