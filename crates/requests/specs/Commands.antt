-- The commands: which words ask for which.
--
--   Asked              == what a line asks for, with lists where a command holds vectors of memory
--   asked c            == what the command c asks for
--   listed_by read ws  == the polynomial that the first of the words writes, and what all words after it read as
--   vectors_of args    == what `vectors` asks for with these words after its name; run_of likewise
--   read_as name args  == what the command of this name asks for with these words after it
--   read_by name args  == the same, or else the name whose form they miss; None where there is no name
--   understood ws      == what a line of these words asks for, or else the command whose form it misses, if it names one
use Rattle.std.specs.Prelude.{ℕ, List, [], ◌∷◌, Some, None, Ok, Err, vec_items, Option, Result}
use Rattle.std.specs.Option.{ok_or, option_map}
use Rattle.words.specs.Readings.{polynomial_in, first_by, then, all_by}
use Rattle.commands.specs.declared.command.Command as plain-command
use Rattle.commands.specs.Commands.{read_as as plain_read_as}
use Rattle.requests.specs.declared.call.Pin.{Pin}
use Rattle.requests.specs.declared.call.AnyCall.{AnyCall}
use Rattle.requests.specs.declared.command.Command.{Command}
use Rattle.requests.specs.declared.command.Command.TheVariants as command
use Rattle.requests.specs.declared.name.Name.{Name}
use Rattle.requests.specs.declared.name.Name.TheVariants as name
use Rattle.requests.specs.Calls.{pin_in, call_in}
use Rattle.requests.specs.Names.{name_of}

pub data Asked : Type 0 where
  plain : plain-command.Command → Asked
  vectors : (polynomial : ℕ) → List Pin → Asked
  run : (polynomial : ℕ) → List AnyCall → Asked

abbrev pub asked : Command → Asked
asked (command.Plain c) = plain c
asked (command.Vectors polynomial pins) = vectors polynomial (vec_items pins)
asked (command.Run polynomial calls) = run polynomial (vec_items calls)

abbrev pub asked_by : Result Command (Option Name) → Result Asked (Option Name)
asked_by (Ok c) = Ok (asked c)
asked_by (Err n) = Err n

abbrev pub listed_by : {X : Type 0} → (List ℕ → Option X) → List (List ℕ) → Option (ℕ × List X)
listed_by read ws = then (first_by polynomial_in ws) (λ p ws. option_map (λ xs. (p.word, xs)) (all_by read ws))

abbrev pub vectors_of : List (List ℕ) → Option Asked
vectors_of ws = option_map (λ l. vectors l.0 l.1) (listed_by pin_in ws)

abbrev pub run_of : List (List ℕ) → Option Asked
run_of ws = option_map (λ l. run l.0 l.1) (listed_by call_in ws)

abbrev pub read_as : Name → List (List ℕ) → Option Asked
read_as (name.Plain n) args = option_map plain (plain_read_as n args)
read_as name.Vectors args = vectors_of args
read_as name.Run args = run_of args

abbrev pub read_by : Option Name → List (List ℕ) → Result Asked (Option Name)
read_by None args = Err None
read_by (Some name) args = ok_or (read_as name args) (Some name)

abbrev pub understood : List (List ℕ) → Result Asked (Option Name)
understood [] = Err None
understood (word ∷ args) = read_by (name_of word) args
