use Rattle.std.proofs.Common.{◌≡◌, ℕ, Some, None, subst, rules}
use Rattle.search.specs.Lists.{Wanted, Least}
use Rattle.search.proofs.Steps.{step_none, step_some}
use Rattle.search.proofs.search.Search.next.Goals as goal

pub returns-in_err-vector : goal.returns-in_err-vector
returns-in_err-vector c =
    let s = c.args.self.now in
    let m = s.candidates.modulus in
    let least = subst (λ (a : ℕ). Least (Wanted m.degree m.polynomial s.pins a) c.least-next.result) c.unwrap_or-from.ensures c.least-next.ensures in
    let none : c.least-next.result ≡ None = search rules in
    search (rules, step_none m.degree m.polynomial s.pins s.from s.reached c.least-next.result least none)

pub returns : goal.returns
returns c =
    let s = c.args.self.now in
    let m = s.candidates.modulus in
    let least = subst (λ (a : ℕ). Least (Wanted m.degree m.polynomial s.pins a) c.least-next.result) c.unwrap_or-from.ensures c.least-next.ensures in
    let one : c.least-next.result ≡ Some c.in_ok-vector.vector = search rules in
    step_some m.degree m.polynomial s.pins s.from s.reached c.least-next.result c.in_ok-vector.vector least one
