use Rattle.std.proofs.Common.{arith, refl, ◌≤◌, ◌^◌, lt-ltb}
use Rattle.std.proofs.Math.Pow.{pow_mono}
use Rattle.rings.proofs.state.state_of.Goals as goal

pub returns-then-cells-ge-BITS : goal.returns-then-cells-ge-BITS
returns-then-cells-ge-BITS c =
    let far : 2 ^ 32 ≤ 2 ^ c.args.cells = pow_mono c.if-cells-ge-BITS.true in
    (rw (lt-ltb c.args.word (2 ^ c.args.cells) (omega arith)), refl)
