use Rattle.std.proofs.Common.{◌≡◌, ℕ, ◌-◌, List, ◌++◌, length, take, drop, string_bytes, codes, ap, ◌∙◌, rules}
use Rattle.replies.specs.Texts.{answered_text}
use Rattle.replies.proofs.Joined.{later, joined_all, joined_more}
use Rattle.replies.proofs.Texts.{shown_answer}
use Rattle.replies.proofs.outcomes.answers_text.Goals as goal

pub returns : goal.returns
returns g c = λ show h.
    let tell = answered_text show in
    let sep = codes ", " in
    let answers = c.args.answers.now in
    let rest = take (length answers - 1) (drop 1 answers) in
    let first = c.first-item.result in
    let told : string_bytes c.in_ok-text.text ≡ tell first = rw (shown_answer g.A.Display.output show h first) at c.in_ok-text.ensures.ok in
    c.loop-answer.invariant show h ∙ ap (λ (l : List ℕ). l ++ later tell sep (take c.loop-answer.answer-index rest)) told
    ∙ joined_all tell sep answers first c.loop-answer.answer-index (search rules) c.first-item.is c.loop-answer-test.false

pub loop-answer-preserved : goal.loop-answer-preserved
loop-answer-preserved g c = λ show h.
    let answers = c.args.answers.now in
    let rest = take (length answers - 1) (drop 1 answers) in
    let answer = c.answer-item.result in
    let wrote : string_bytes c.write.new.self ≡ string_bytes c.loop-answer.text ++ (codes ", " ++ answered_text show answer) =
    rw (shown_answer g.A.Display.output show h answer) at c.in_ok-write.ensures.bytes in
    joined_more (answered_text show) (codes ", ") rest answer c.loop-answer.answer-index (string_bytes c.in_ok-text.text) (string_bytes c.loop-answer.text)
    (string_bytes c.write.new.self) c.loop-answer-test.true c.answer-item.is (c.loop-answer.invariant show h) wrote
