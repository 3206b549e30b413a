-- Refusals: the number of each, and how a call asks its questions.
--
--   number_of q        == the number of the question that was answered by no
--   place_of q         == the cell that the refusal names, if it names one
--   unless t q rest    == the refusal q where the test t fails, else what the questions after it give
--   else_asked q rest  == the refusal of the first questions, or else that of the questions after them
--   refused_or q a     == the refusal that q has, if it has one, else a
--   Answers r q P      == r refuses with the refusal that q has, or q has none and r is a value that satisfies P
--   Changes r q v u w  == r refuses with the refusal that q has, and v stays, as w shows, or q has none and w is u
--   vector_refusal     == the questions to a number of cells and a vector, in their order
--   polynomial_refusal == the question to a polynomial
--   word_refusal       == the question to a word that is to be a state of so many cells
use Rattle.std.specs.Prelude.{◌≡◌, ℕ, ◌^◌, Bool, true, false, ◌&&◌, Some, None, Ok, Err, Option, Result, nat_le, nat_lt}
use Rattle.rings.specs.declared.refusal.Refusal.{Refusal}
use Rattle.rings.specs.declared.refusal.Refusal.TheVariants.{PolynomialBelowTwo, SearchRunning, NoSuchCell, PinValue, CellPinned, CellNotPinned, NoVectorLeft, TooManyItems, WordTooLarge, SeedZero, NotSeeded, ClockPastLimit, CellCount, VectorTooLarge, TooManyCells, NoShift, BufferTooShort, TooFewCells, SlotCount, SheetLength, NoSlotFree, PolynomialNotAbove, EntryNotOpen, OtherPolynomial, VectorNotAbove, NoRoom, ListNotFull}

abbrev pub number_of : Refusal → ℕ
number_of PolynomialBelowTwo = 1
number_of SearchRunning = 2
number_of NoSuchCell = 3
number_of PinValue = 4
number_of CellPinned = 5
number_of CellNotPinned = 6
number_of NoVectorLeft = 7
number_of TooManyItems = 8
number_of WordTooLarge = 11
number_of SeedZero = 12
number_of NotSeeded = 13
number_of ClockPastLimit = 14
number_of CellCount = 15
number_of VectorTooLarge = 16
number_of TooManyCells = 17
number_of (NoShift cell) = 18
number_of BufferTooShort = 19
number_of TooFewCells = 20
number_of SlotCount = 31
number_of SheetLength = 32
number_of NoSlotFree = 33
number_of PolynomialNotAbove = 34
number_of EntryNotOpen = 35
number_of OtherPolynomial = 36
number_of VectorNotAbove = 37
number_of NoRoom = 38
number_of ListNotFull = 39

abbrev pub place_of : Refusal → Option ℕ
place_of PolynomialBelowTwo = None
place_of SearchRunning = None
place_of NoSuchCell = None
place_of PinValue = None
place_of CellPinned = None
place_of CellNotPinned = None
place_of NoVectorLeft = None
place_of TooManyItems = None
place_of WordTooLarge = None
place_of SeedZero = None
place_of NotSeeded = None
place_of ClockPastLimit = None
place_of CellCount = None
place_of VectorTooLarge = None
place_of TooManyCells = None
place_of (NoShift cell) = Some cell
place_of BufferTooShort = None
place_of TooFewCells = None
place_of SlotCount = None
place_of SheetLength = None
place_of NoSlotFree = None
place_of PolynomialNotAbove = None
place_of EntryNotOpen = None
place_of OtherPolynomial = None
place_of VectorNotAbove = None
place_of NoRoom = None
place_of ListNotFull = None

abbrev pub unless : Bool → Refusal → Option Refusal → Option Refusal
unless true q rest = rest
unless false q rest = Some q

abbrev pub else_asked : Option Refusal → Option Refusal → Option Refusal
else_asked None rest = rest
else_asked (Some q) rest = Some q

abbrev pub refused_or : {A : Type 0} → Option Refusal → A → Result A Refusal
refused_or None a = Ok a
refused_or (Some q) a = Err q

abbrev pub Answers : {A : Type 0} → Result A Refusal → Option Refusal → (A → Type 0) → Type 0
Answers (Ok x) q P = (q ≡ None) × P x
Answers (Err e) q P = q ≡ Some e

abbrev pub Changes : {V : Type 0} → Result (Unit {0}) Refusal → Option Refusal → V → V → V → Type 0
Changes (Ok x) q before after is = (q ≡ None) × (is ≡ after)
Changes (Err e) q before after is = (q ≡ Some e) × (is ≡ before)

-- 1 to 31 cells? A vector below 2^cells?
abbrev pub vector_refusal : ℕ → ℕ → Option Refusal
vector_refusal cells vector =
    unless (nat_le 1 cells && nat_le cells 31) CellCount (unless (nat_lt vector (2 ^ cells)) VectorTooLarge None)

-- A polynomial from 2 on?
abbrev pub polynomial_refusal : ℕ → Option Refusal
polynomial_refusal polynomial = unless (nat_le 2 polynomial) PolynomialBelowTwo None

-- A word below 2^cells?
abbrev pub word_refusal : ℕ → ℕ → Option Refusal
word_refusal cells word = unless (nat_lt word (2 ^ cells)) WordTooLarge None
