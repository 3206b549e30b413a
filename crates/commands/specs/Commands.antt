-- The commands: which words ask for which.
--
--   name_of w          == the command that has this name, if one has
--   usage_of name      == what a line with this name should look like
--   expected_of name   == what a line was to look like: the form of the command that it names, or any command
--   multiply_of args   == what `multiply` asks for with these words after its name; likewise for the other names
--   more_layers l w    == the layers l and the one that w names, if it names one
--   layers_of ws       == the layers that the words name, if each of them names one
--   moment_of ws       == the seed, the clock and the layers that the words write
--   read_as name args  == what the command of this name asks for with these words after it
--   read_by name args  == the same, or else the name whose form they miss; None where there is no name
--   understood ws      == what a line of these words asks for, or else the command whose form it misses, if it names one
use Rattle.std.specs.Prelude.{ℕ, ◌+◌, ◌-◌, ◌^◌, min, cond, List, [], ◌∷◌, Some, None, Err, codes, Option, Result}
use Rattle.std.specs.Option.{ok_or, option_map, option_and_then}
use Rattle.std.specs.Str.{bytes_eq}
use Rattle.words.specs.Readings.{number_in, small_in, polynomial_in, first_by, then, ended}
use Rattle.commands.specs.declared.command.Command.{Command}
use Rattle.commands.specs.declared.command.Command.TheVariants.{Multiply, Pattern, Register}
use Rattle.commands.specs.declared.command.Layers.{Layers}
use Rattle.commands.specs.declared.command.Moment.{Moment}
use Rattle.commands.specs.declared.name.Name.{Name}
use Rattle.commands.specs.declared.name.Name.TheVariants as name

abbrev pub name_of : List ℕ → Option Name
name_of w =
    cond (bytes_eq w (codes "multiply")) (Some name.Multiply)
    (cond (bytes_eq w (codes "pattern")) (Some name.Pattern)
    (cond (bytes_eq w (codes "register")) (Some name.Register) None))

abbrev pub usage_of : Name → List ℕ
usage_of name.Multiply = codes "multiply CELLS VECTOR"
usage_of name.Pattern = codes "pattern CELLS VECTOR SEED CLOCK [doubler|tap]..."
usage_of name.Register = codes "register POLYNOMIAL SEED CLOCK [doubler|tap]..."

abbrev pub expected_of : Option Name → List ℕ
expected_of None = codes "a command: multiply, pattern, register"
expected_of (Some name) = usage_of name

abbrev pub multiply_of : List (List ℕ) → Option Command
multiply_of ws = then (first_by small_in ws) (λ c ws. then (first_by small_in ws) (λ v ws. ended ws (Multiply c v)))

-- a word that names no layer makes no pile; more than 2^32 − 1 of a kind count as so many
abbrev pub one_more : ℕ → ℕ
one_more n = min (n + 1) (2 ^ 32 - 1)

abbrev pub more_layers : Layers → List ℕ → Option Layers
more_layers l w =
    cond (bytes_eq w (codes "doubler")) (Some (record { doublers = one_more l.doublers; taps = l.taps }))
    (cond (bytes_eq w (codes "tap")) (Some (record { doublers = l.doublers; taps = one_more l.taps })) None)

abbrev pub layers_over : Layers → List (List ℕ) → Option Layers
layers_over l [] = Some l
layers_over l (w ∷ ws) = option_and_then (λ more. layers_over more ws) (more_layers l w)

abbrev pub layers_of : List (List ℕ) → Option Layers
layers_of ws = layers_over (record { doublers = 0; taps = 0 }) ws

abbrev pub moment_of : List (List ℕ) → Option Moment
moment_of ws =
    then (first_by small_in ws) (λ s ws.
    then (first_by number_in ws) (λ t ws. option_map (λ l. record { seed = s; clock = t; layers = l }) (layers_of ws)))

abbrev pub pattern_of : List (List ℕ) → Option Command
pattern_of ws = then (first_by small_in ws) (λ c ws. then (first_by small_in ws) (λ v ws. option_map (Pattern c v) (moment_of ws)))

abbrev pub register_of : List (List ℕ) → Option Command
register_of ws = then (first_by polynomial_in ws) (λ p ws. option_map (Register p.word) (moment_of ws))

abbrev pub read_as : Name → List (List ℕ) → Option Command
read_as name.Multiply args = multiply_of args
read_as name.Pattern args = pattern_of args
read_as name.Register args = register_of args

abbrev pub read_by : Option Name → List (List ℕ) → Result Command (Option Name)
read_by None args = Err None
read_by (Some name) args = ok_or (read_as name args) (Some name)

abbrev pub understood : List (List ℕ) → Result Command (Option Name)
understood [] = Err None
understood (word ∷ args) = read_by (name_of word) args
