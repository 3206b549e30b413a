-- What a search is at a moment, and what its calls ask and do.
--
--   View              == the polynomial, the number of cells, a pin or none for each cell, the vectors given since the
--                        start, and whether the search is running
--   given_below n p pins from == the vectors given so far: none yet, or the fitting ones below a bound
--   view s            == the view of a search
--   fitting w         == the fitting list: the vectors of the polynomial that obey the pins, ascending
--   Opened p w        == w is the view of a search on p that was just opened
--   pin_at w cell     == the pin of a cell, counted from 1
--   cell_refusal w cell others == the questions that a pin and its removal begin with, and then the others
--   pin_refusal       == the questions to a pin, in their order; likewise unpin_refusal and next_refusal
--   with_pin w cell o == w with the pin o for the cell
--   Gives w v w'      == v is the vector of the fitting list after those given, and w' is w with v given too
--   ended w           == w, running, with nothing more given
--   GoesOn r w w'     == r is the next vector, or refuses where all are given, and w' is what the search is then
--   rewound w         == w at its start, with its pins
use Rattle.std.specs.Prelude.{◌≡◌, ℕ, ◌-◌, Bool, true, false, not, ◌&&◌, List, [], ◌∷◌, ◌++◌, length, replicate, is_some, Some, None, Ok, Err, Option, Result, nat_le, nat_lt, slice_index_or, slice_set}
use Rattle.gf2.specs.Algebra.{Degree}
use Rattle.rings.specs.declared.refusal.Refusal.{Refusal}
use Rattle.rings.specs.declared.refusal.Refusal.TheVariants.{SearchRunning, NoSuchCell, PinValue, CellPinned, CellNotPinned, NoVectorLeft}
use Rattle.rings.specs.Questions.{unless}
use Rattle.search.specs.Lists.{fitting_below, fitting_list}
use Rattle.search.specs.declared.search.Search.{Search}

pub record View : Type 0 where
  pub polynomial : ℕ
  pub cells : ℕ
  pub pins : List (Option ℕ)
  pub given : List ℕ
  pub running : Bool

abbrev pub given_below : ℕ → ℕ → List (Option ℕ) → Option ℕ → List ℕ
given_below n p pins None = []
given_below n p pins (Some from) = fitting_below n p pins from

abbrev pub view : Search → View
view s =
    record {
      polynomial = s.candidates.modulus.polynomial;
      cells = s.candidates.modulus.degree;
      pins = s.pins;
      given = given_below s.candidates.modulus.degree s.candidates.modulus.polynomial s.pins s.from;
      running = is_some s.from;
    }

abbrev pub fitting : View → List ℕ
fitting w = fitting_list w.cells w.polynomial w.pins

pub record Opened (p : ℕ) (w : View) : Type 0 where
  pub polynomial : w.polynomial ≡ p
  pub degree : Degree p w.cells
  pub pins : w.pins ≡ replicate 31 None
  pub given : w.given ≡ []
  pub running : w.running ≡ false

abbrev pub pin_at : View → ℕ → Option ℕ
pin_at w cell = slice_index_or w.pins (cell - 1) None

-- Not running? A cell from 1 to the number of cells? And then the others.
abbrev pub cell_refusal : View → ℕ → Option Refusal → Option Refusal
cell_refusal w cell others =
    unless (not w.running) SearchRunning (unless (nat_le 1 cell && nat_le cell w.cells) NoSuchCell others)

-- A value of 0 or 1? A cell without a pin?
abbrev pub pin_refusal : View → ℕ → ℕ → Option Refusal
pin_refusal w cell value =
    cell_refusal w cell (unless (nat_le value 1) PinValue (unless (not (is_some (pin_at w cell))) CellPinned None))

-- A cell with a pin?
abbrev pub unpin_refusal : View → ℕ → Option Refusal
unpin_refusal w cell = cell_refusal w cell (unless (is_some (pin_at w cell)) CellNotPinned None)

-- A vector of the fitting list that is not given yet?
abbrev pub next_refusal : View → Option Refusal
next_refusal w = unless (nat_lt (length w.given) (length (fitting w))) NoVectorLeft None

abbrev pub with_pin : View → ℕ → Option ℕ → View
with_pin w cell pin =
    record { polynomial = w.polynomial; cells = w.cells; pins = slice_set w.pins (cell - 1) pin; given = w.given; running = w.running }

pub record Gives (w : View) (v : ℕ) (w' : View) : Type 0 where
  pub rest : List ℕ
  pub next : fitting w ≡ w.given ++ (v ∷ rest)
  pub after :
      w' ≡ record { polynomial = w.polynomial; cells = w.cells; pins = w.pins; given = w.given ++ (v ∷ []); running = true }

abbrev pub ended : View → View
ended w = record { polynomial = w.polynomial; cells = w.cells; pins = w.pins; given = w.given; running = true }

abbrev pub GoesOn : Result ℕ Refusal → View → View → Type 0
GoesOn (Ok v) w w' = (next_refusal w ≡ None) × Gives w v w'
GoesOn (Err e) w w' = (next_refusal w ≡ Some e) × (w.given ≡ fitting w) × (w' ≡ ended w)

abbrev pub rewound : View → View
rewound w = record { polynomial = w.polynomial; cells = w.cells; pins = w.pins; given = []; running = false }
