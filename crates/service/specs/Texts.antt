-- The texts of answers.
--
--   answer_text a  == how an answer is told
use Rattle.std.specs.Prelude.{ℕ, List, codes, decimal}
use Rattle.service.specs.declared.searches.Answer.{Answer}
use Rattle.service.specs.declared.searches.Answer.TheVariants as answer

abbrev pub answer_text : Answer → List ℕ
answer_text answer.Done = codes "done"
answer_text (answer.Count n) = decimal n
answer_text (answer.Vector v) = decimal v
