-- What the command for runs of calls asks for.
--
--   search_calls cs     == the calls on the search among cs; rig_calls likewise
--   register_of p       == the register of the polynomial p
--   outcome_text s r k  == the answers s of a search and r of a rig, and the rings k, as text
--   search_answers p cs == the answers of a search on p to these calls, each the right one after what came before it
--   rig_answers p cs    == the same of a rig over the register of p
--   run_text p cs       == the answers of both and the rings made from the vectors given, or the refusal
use Rattle.std.specs.Prelude.{ℕ, List, ◌++◌, map, Some, None, codes, decimal, Option, filter_map}
use Rattle.rings.specs.declared.ring.Ring.{Ring}
use Rattle.rings.specs.Questions.{polynomial_refusal}
use Rattle.generators.specs.Generators.{Meaning, plain}
use Rattle.generators.specs.Registers.{register_next}
use Rattle.runs.specs.Runs.{answers}
use Rattle.rig.specs.declared.run.Call as rig-call
use Rattle.rig.specs.Runs as rig
use Rattle.rig.specs.Texts.{answer_text as rig_text}
use Rattle.service.specs.declared.searches.Call as search-call
use Rattle.service.specs.Searches as search
use Rattle.service.specs.Texts.{answer_text as search_text}
use Rattle.service.specs.Promises.{vectors}
use Rattle.requests.specs.declared.call.AnyCall.{AnyCall}
use Rattle.requests.specs.declared.call.AnyCall.TheVariants.{Search, Rig}
use Rattle.commands.specs.Patterns.{top_bit}
use Rattle.commands.specs.Replies.{said}
use Rattle.replies.specs.Texts.{answered_text, joined}

abbrev pub search_in : AnyCall → Option search-call.Call
search_in (Search c) = Some c
search_in (Rig c) = None

abbrev pub rig_in : AnyCall → Option rig-call.Call
rig_in (Search c) = None
rig_in (Rig c) = Some c

abbrev pub search_calls : List AnyCall → List search-call.Call
search_calls cs = filter_map search_in cs

abbrev pub rig_calls : List AnyCall → List rig-call.Call
rig_calls cs = filter_map rig_in cs

abbrev pub register_of : ℕ → Meaning
register_of p = plain p (top_bit p) (register_next p (top_bit p))

-- the three parts, each told already
abbrev pub parts_text : List ℕ → List ℕ → List ℕ → List ℕ
parts_text s r k = codes "search " ++ (s ++ (codes "; rig " ++ (r ++ (codes "; rings " ++ k))))

abbrev pub outcome_text : List search.Answered → List rig.Answered → List Ring → List ℕ
outcome_text s r k = parts_text (joined (codes ", ") (map (answered_text search_text) s)) (joined (codes ", ") (map (answered_text rig_text) r)) (joined (codes " ") (map (λ x. decimal x.vector.rules) k))

abbrev pub search_answers : ℕ → List AnyCall → List search.Answered
search_answers p cs = answers (search.right_answer p (top_bit p)) (search_calls cs)

abbrev pub rig_answers : ℕ → List AnyCall → List rig.Answered
rig_answers p cs = answers (rig.right_answer (register_of p)) (rig_calls cs)

abbrev pub run_text : ℕ → List AnyCall → List ℕ
run_text p cs =
    said (polynomial_refusal p)
    (parts_text (joined (codes ", ") (map (answered_text search_text) (search_answers p cs))) (joined (codes ", ") (map (answered_text rig_text) (rig_answers p cs)))
    (joined (codes " ") (map decimal (vectors (search_answers p cs)))))
