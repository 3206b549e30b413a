use Rattle.std.proofs.Common.{ℕ, ◌+◌, length, sym, ap, ◌∙◌, arith}
use Rattle.search.proofs.Runs.{below_none, none_left, count_more, vector_below, vector_from}
use Rattle.search.proofs.search.Search.count.Goals as goal

pub loop-vector-init : goal.loop-vector-init
loop-vector-init c =
    let s = c.args.self.now in
    let m = s.candidates.modulus in
    (omega arith, omega arith, sym (ap length (below_none m.degree m.polynomial s.pins)))

pub loop-vector-preserved : goal.loop-vector-preserved
loop-vector-preserved c =
    let s = c.args.self.now in
    let m = s.candidates.modulus in
    let l = c.loop-vector in
    let v = c.in-Some.vector in
    let first = c.in-Some.ensures in
    let below = vector_below m.degree m.polynomial s.pins l.from l.invariant.0 v first in
    let from = vector_from m.degree m.polynomial s.pins l.from l.invariant.0 v first in
    (omega (arith, below), omega (arith, from, l.invariant.1), ap (λ (k : ℕ). k + 1) l.invariant.2 ∙ sym (count_more m.degree m.polynomial s.pins l.from l.invariant.0 v first))

pub returns : goal.returns
returns c =
    let s = c.args.self.now in
    let m = s.candidates.modulus in
    let l = c.loop-vector in
    l.invariant.2 ∙ ap length (none_left m.degree m.polynomial s.pins l.from l.invariant.0 c.in_default.ensures)
