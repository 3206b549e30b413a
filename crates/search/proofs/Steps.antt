-- A step of a search: where a smallest vector is left from the bound on, and where none is.
use Rattle.std.proofs.Common.{◌≡◌, ℕ, ◌+◌, ◌^◌, ◌≤◌, true, List, is_some, Some, None, Ok, Err, Option, sym, refl, ap}
use Rattle.std.specs.Option.{unwrap_or}
use Rattle.rings.specs.declared.refusal.Refusal.TheVariants.{NoVectorLeft}
use Rattle.search.specs.Lists.{fitting_below, Wanted, Least}
use Rattle.search.specs.Views.{View, given_below, GoesOn}
use Rattle.search.proofs.Runs.{below_none, none_left, all_given, one_left, some_left, one_more}

module _ (n p : ℕ) (pins : List (Option ℕ)) (from : Option ℕ) (reached : unwrap_or from 0 ≤ 2 ^ n) where
  seen : (from : Option ℕ) → given_below n p pins from ≡ fitting_below n p pins (unwrap_or from 0)
  seen None = sym (below_none n p pins)
  seen (Some a) = refl

  abbrev before : View
  before = record { polynomial = p; cells = n; pins = pins; given = given_below n p pins from; running = is_some from }

  abbrev after : ℕ → View
  after a = record { polynomial = p; cells = n; pins = pins; given = fitting_below n p pins a; running = true }

  pub step_none : (r : Option ℕ) → Least (Wanted n p pins (unwrap_or from 0)) r → r ≡ None → GoesOn (Err NoVectorLeft) before (after (unwrap_or from 0))
  step_none r least is =
      let none = rw is at least in
      rw (seen from)
      (rw (all_given n p pins (unwrap_or from 0) reached none), none_left n p pins (unwrap_or from 0) reached none, refl)

  pub step_some : (r : Option ℕ) (v : ℕ) → Least (Wanted n p pins (unwrap_or from 0)) r → r ≡ Some v → GoesOn (Ok v) before (after (v + 1))
  step_some r v least is =
      let first = rw is at least in
      let a = unwrap_or from 0 in
      rw (seen from)
      (rw (some_left n p pins a reached v first), record { rest = _; next = one_left n p pins a reached v first; after = ap (λ (g : List ℕ). record { polynomial = p; cells = n; pins = pins; given = g; running = true }) (one_more n p pins a reached v first) })
