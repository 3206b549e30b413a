use Rattle.std.proofs.Common.{rules, arith}
use Rattle.std.proofs.lemmas.Iterator.{YieldsList-from_range}
use Rattle.std.proofs.lemmas.Iterator.Consumers.{YieldsList-at}
use Rattle.search.proofs.Picked.{smallest}
use Rattle.search.proofs.Wanted.{At, least_of}
use Rattle.search.proofs.candidates.Candidates.least.Goals as goal

pub returns : goal.returns
returns c =
    let s = c.args.self.now in
    let m = s.modulus in
    let ran = smallest c.filter_map.result c.min.result c.min.ensures.ran (At m.degree m.polynomial c.args.pins.now c.args.from s.span s.complete) _ _
    (YieldsList-at c.filter_map.ensures.source (YieldsList-from_range 0 s.span.words s.span.words (search rules) (omega arith))) c.filter_map.ensures.closure (λ t o q k. search rules) in
    least_of m.degree m.polynomial c.args.pins.now c.args.from s.span s.complete c.min.result ran.0 ran.1 ran.2
