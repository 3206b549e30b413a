use Rattle.std.proofs.Common.{sym, arith}
use Rattle.gf2.proofs.Words.{derivative_word}
use Rattle.gf2.proofs.arithmetic.derivative.Goals as goal

pub returns : goal.returns
returns c = sym (derivative_word 32 c.args.a (omega arith))
