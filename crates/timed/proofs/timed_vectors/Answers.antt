use Rattle.std.proofs.Common.{ℕ, List, fold, ap, ◌∙◌}
use lib.Bits.{bit_xor}
use Rattle.gf2.proofs.Division.{degree_unique}
use Rattle.search.specs.Lists.{full_list}
use Rattle.search.specs.Views.{view}
use Rattle.search.proofs.Turns.{opened_all}
use Rattle.timed.proofs.timed_vectors.Goals as goal

pub returns : goal.returns
returns c =
    let p = c.args.p in
    let w = view c.in-Ok.search in
    let opened = c.in-Ok.ensures.value in
    rw opened.0
    (λ n degree.
    c.sum_of.ensures opened.1.given
    ∙ ap (λ (l : List ℕ). fold bit_xor 0 l) (opened_all p w opened.1 ∙ ap (λ (k : ℕ). full_list k p) (degree_unique p w.cells n opened.1.degree degree)))
