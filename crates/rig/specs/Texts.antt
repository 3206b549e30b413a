-- The texts of answers.
--
--   answer_text a  == how an answer is told
use Rattle.std.specs.Prelude.{ℕ, List, codes, decimal}
use Rattle.rig.specs.declared.run.Answer.{Answer}
use Rattle.rig.specs.declared.run.Answer.TheVariants as answer

abbrev pub answer_text : Answer → List ℕ
answer_text answer.Done = codes "done"
answer_text (answer.Pattern p) = decimal p
answer_text (answer.Clock c) = decimal c
