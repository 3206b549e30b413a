-- What a search that was just opened gives.
use Rattle.std.proofs.Common.{◌≡◌, ℕ, List, Option, ◌∙◌, ap₂}
use Rattle.search.specs.Lists.{full_list, fitting_list}
use Rattle.search.specs.Views.{View, fitting, Opened}
use Rattle.search.proofs.Runs.{unpinned}

pub opened_all : (p : ℕ) (w : View) → Opened p w → fitting w ≡ full_list w.cells p
opened_all p w o = ap₂ (λ (q : ℕ) (pins : List (Option ℕ)). fitting_list w.cells q pins) o.polynomial o.pins ∙ unpinned w.cells p
