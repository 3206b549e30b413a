use Rattle.std.proofs.Common.{arith}
use Rattle.gf2.proofs.Words.{masked}
use Rattle.gf2.proofs.arithmetic.scaled.Goals as goal

pub returns : goal.returns
returns c small = masked 32 c.args.digit c.args.b c.wrapping_neg.result small (omega arith) (omega arith) c.wrapping_neg.ensures
