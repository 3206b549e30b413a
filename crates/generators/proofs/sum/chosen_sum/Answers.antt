use Rattle.std.proofs.Common.{ℕ, ◌+◌, ◌/◌, ◌^◌, drop, sym, ap, ◌∙◌, le-leb, shr-shr}
use Rattle.generators.specs.Chosen.{chosen}
use Rattle.generators.proofs.Chosen.{chosen_none, chosen_set, chosen_clear}
use Rattle.generators.proofs.sum.chosen_sum.Goals as goal
use Rattle.generators.proofs.sum.chosen_sum.Goals.{then-word-place-eq1, else-word-place-eq1}

pub loop-place-preserved : goal.loop-place-preserved
loop-place-preserved g c =
    let t = g.T.Summand in
    let law = g.met.T.Summand in
    let l = c.loop-place in
    let xs = c.args.items.now in
    let x = c.index-items-place.result in
    let sum = c.if-word-place-eq1.sum in
    let left = c.args.word / 2 ^ l.place in
    let whole = chosen t.zero t.plus xs c.args.word in
    ◌∙◌ {c = whole} (ap (λ (k : ℕ). t.plus sum (chosen t.zero t.plus (drop (l.place + 1) xs) k)) (sym (shr-shr c.args.word l.place 1)))
    (elim c.if-word-place-eq1.branch [
      | then-word-place-eq1 w ↦
          ◌∙◌ {c = whole}
          (chosen_set t.zero t.plus law.unit law.commutes law.associates xs l.place x c.loop-place-test.true c.index-items-place.is l.sum left sum w.plus-sum.result w.sum-is w.plus-sum.ensures w.if-word-place-eq1.true)
          l.invariant
      | else-word-place-eq1 w ↦
          ◌∙◌ {c = whole}
          (chosen_clear t.zero t.plus law.unit law.commutes law.associates xs l.place x c.loop-place-test.true c.index-items-place.is l.sum left sum w.sum-is w.if-word-place-eq1.false)
          l.invariant
    ])

pub returns : goal.returns
returns g c =
    let t = g.T.Summand in
    let law = g.met.T.Summand in
    let l = c.loop-place in (
      rw (le-leb _ 32 c.if-items-gt-MAX_ITEMS.false),
      ◌∙◌ {c = chosen t.zero t.plus c.args.items.now c.args.word}
          (sym (chosen_none t.zero t.plus law.unit law.commutes law.associates c.args.items.now l.place l.sum (c.args.word / 2 ^ l.place) c.loop-place-test.false)) l.invariant,
    )
