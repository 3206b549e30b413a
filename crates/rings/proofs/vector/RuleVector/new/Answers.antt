use Rattle.std.proofs.Common.{arith, le-ltb, le-leb}
use Rattle.gf2.proofs.Division.{reaches}
use Rattle.rings.proofs.vector.RuleVector.new.Goals as goal

pub returns-then-vector-cells-ne0 : goal.returns-then-vector-cells-ne0
returns-then-vector-cells-ne0 c =
    let cells = c.args.cells in
    rw (le-leb 1 cells (omega arith), le-leb cells 31 (omega arith), le-ltb c.args.vector _ (reaches c.args.vector cells c.if-vector-cells-ne0.true))
