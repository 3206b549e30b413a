use Rattle.gf2.proofs.Words.{word_times_x}
use Rattle.gf2.proofs.modulus.Modulus.times_x.Goals as goal

pub returns : goal.returns
returns c a l =
    let m = c.args.self.now in
    word_times_x m.polynomial m.degree c.args.r c.scaled.result m.leading m.high a l c.scaled.ensures
