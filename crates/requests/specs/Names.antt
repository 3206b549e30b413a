-- The names of the commands.
--
--   name_of w      == the command that has this name, if one has
--   usage_of name  == what a line with this name should look like
--   expected_of n  == what a line was to look like: the form of the command that it names, or any command
use Rattle.std.specs.Prelude.{ℕ, cond, List, Some, None, codes, Option}
use Rattle.std.specs.Option.{option_map}
use Rattle.std.specs.Str.{bytes_eq}
use Rattle.commands.specs.Commands.{name_of as plain_name_of, usage_of as plain_usage_of}
use Rattle.requests.specs.declared.name.Name.{Name}
use Rattle.requests.specs.declared.name.Name.TheVariants.{Plain, Vectors, Run}

abbrev pub name_of : List ℕ → Option Name
name_of w =
    cond (bytes_eq w (codes "vectors")) (Some Vectors)
    (cond (bytes_eq w (codes "run")) (Some Run) (option_map Plain (plain_name_of w)))

abbrev pub usage_of : Name → List ℕ
usage_of (Plain name) = plain_usage_of name
usage_of Vectors = codes "vectors POLYNOMIAL [CELL=VALUE]..."
usage_of Run = codes "run POLYNOMIAL [CALL]..."

abbrev pub expected_of : Option Name → List ℕ
expected_of None = codes "a command: multiply, pattern, register, vectors, run"
expected_of (Some name) = usage_of name
