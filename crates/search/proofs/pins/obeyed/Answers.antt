use Rattle.std.proofs.Common.{◌/◌, ◌^◌, ap, rules}
use lib.Bits.{and_mask}
use Rattle.std.proofs.lemmas.Iterator.{cases_from_all, YieldsList-from_slice}
use Rattle.std.proofs.lemmas.Iterator.Consumers.{YieldsList-at, YieldsList-from_enumerate}
use Rattle.search.proofs.Obeyed.{At, obeyed}
use Rattle.search.proofs.pins.obeyed.Goals as goal

pub returns : goal.returns
returns c =
    let v = c.args.vector in
    obeyed c.args.pins.now v c.all.result
    (cases_from_all _ _ _ (At v) (λ p. At v p → ⊥) c.all.ensures.ran
    (YieldsList-from_enumerate (YieldsList-at c.enumerate.ensures.source (YieldsList-from_slice c.args.pins.now (search rules))) c.enumerate.ensures.count)
    (λ x q k. (ap (λ w. record { 0 = w }) k.met.1, search (rules, and_mask (v / 2 ^ x.0) 1))) (λ x q k. search (rules, and_mask (v / 2 ^ x.0) 1)))
