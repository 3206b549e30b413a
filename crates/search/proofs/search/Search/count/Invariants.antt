use Rattle.std.proofs.Common.{◌≡◌, ◌-◌, ◌^◌, ◌≤◌, length}
use Rattle.search.specs.Lists.{fitting_below}
use Rattle.search.proofs.search.Search.count.Given as goal

-- the fitting vectors below from are counted
abbrev pub invariant-loop-vector : goal.invariant-loop-vector
invariant-loop-vector l =
    (l.from ≤ 2 ^ l.self.candidates.modulus.degree) × (l.count ≤ l.from)
    × (l.count ≡ length (fitting_below l.self.candidates.modulus.degree l.self.candidates.modulus.polynomial l.self.pins l.from))

abbrev pub decreases-loop-vector : goal.decreases-loop-vector
decreases-loop-vector l = 2 ^ l.self.candidates.modulus.degree - l.from
