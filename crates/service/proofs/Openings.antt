-- A search that was just opened is tied to the empty history.
use Rattle.std.proofs.Common.{◌≡◌, ℕ, List, [], subst}
use Rattle.runs.specs.Runs.{Obeys}
use Rattle.search.specs.Views.{View, Opened}
use Rattle.service.specs.declared.searches.Call.{Call}
use Rattle.service.specs.Searches.{Answered, view_after, SearchLaw}

module _ (p : ℕ) (v : View) (opened : Opened p v) where
  tied : v ≡ view_after v.polynomial v.cells []
  tied = λ i. record { polynomial = v.polynomial; cells = v.cells; pins = opened.pins i; given = opened.given i; running = opened.running i }

  pub opened_run : (cs : List Call) (rs : List Answered)
      → (v ≡ view_after v.polynomial v.cells [] → Obeys (SearchLaw v.polynomial v.cells) cs rs) → Obeys (SearchLaw p v.cells) cs rs
  opened_run cs rs run = subst (λ (k : ℕ). Obeys (SearchLaw k v.cells) cs rs) opened.polynomial (run tied)
