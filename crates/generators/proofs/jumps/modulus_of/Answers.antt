use Rattle.std.proofs.Common.{arith}
use Rattle.gf2.proofs.Words.{degree_two}
use Rattle.generators.proofs.jumps.modulus_of.Goals as goal

pub unreachable-requires : goal.unreachable-requires
unreachable-requires g c =
    let lawful = g.met.G.Generator.lawful c.args.g.now in
    let m = g.G.Generator.meaning c.args.g.now in
    omega (arith, degree_two m.polynomial m.cells lawful.leading lawful.some, c.in_default.ensures, c.polynomial.ensures)
