-- Pins and calls as words write them.
--
--   pin_by c v          == the pin of the cell that the word c writes to the value that v writes
--   pin_in w            == the pin that the word w writes, as CELL=VALUE
--   named w             == the call with this name that takes no argument
--   setting q           == the call that sets the pin q
--   with_argument n a   == the call with the name n and the argument a; a pin where n writes a cell
--   call_in w           == the call that the word w writes, as NAME, NAME=NUMBER or CELL=VALUE
use Rattle.std.specs.Prelude.{ℕ, cond, List, Some, None, codes, Option}
use Rattle.std.specs.Option.{option_map, option_and_then}
use Rattle.std.specs.Str.{bytes_eq}
use Rattle.rig.specs.declared.run.Call.TheVariants as rig-call
use Rattle.service.specs.declared.searches.Call.TheVariants as search-call
use Rattle.words.specs.Readings.{number_in, small_in}
use Rattle.words.specs.Words.{halves_of}
use Rattle.requests.specs.declared.call.Pin.{Pin}
use Rattle.requests.specs.declared.call.AnyCall.{AnyCall}
use Rattle.requests.specs.declared.call.AnyCall.TheVariants.{Search, Rig}

abbrev pub pin_by : List ℕ → List ℕ → Option Pin
pin_by c v = option_and_then (λ cell. option_map (λ value. record { cell = cell; value = value }) (small_in v)) (small_in c)

abbrev pub pin_in : List ℕ → Option Pin
pin_in w = option_and_then (λ h. pin_by h.0 h.1) (halves_of w)

abbrev pub named : List ℕ → Option AnyCall
named w =
    cond (bytes_eq w (codes "count")) (Some (Search search-call.Count))
    (cond (bytes_eq w (codes "next")) (Some (Search search-call.Next))
    (cond (bytes_eq w (codes "rewind")) (Some (Search search-call.Rewind))
    (cond (bytes_eq w (codes "step")) (Some (Rig rig-call.Step))
    (cond (bytes_eq w (codes "show")) (Some (Rig rig-call.Show))
    (cond (bytes_eq w (codes "clock")) (Some (Rig rig-call.Clock)) None)))))

abbrev pub setting : Pin → AnyCall
setting q = Search (search-call.Pin q.cell q.value)

abbrev pub with_argument : List ℕ → List ℕ → Option AnyCall
with_argument n a =
    cond (bytes_eq n (codes "unpin")) (option_map (λ c. Search (search-call.Unpin c)) (small_in a))
    (cond (bytes_eq n (codes "seed")) (option_map (λ w. Rig (rig-call.Seed w)) (small_in a))
    (cond (bytes_eq n (codes "jump")) (option_map (λ l. Rig (rig-call.Jump l)) (number_in a))
    (option_map setting (pin_by n a))))

abbrev pub call_between : List ℕ → Option (List ℕ × List ℕ) → Option AnyCall
call_between w None = named w
call_between w (Some h) = with_argument h.0 h.1

abbrev pub call_in : List ℕ → Option AnyCall
call_in w = call_between w (halves_of w)
