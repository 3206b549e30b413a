use Rattle.std.proofs.Common.{◌≡◌, ℕ, ◌^◌, ◌<◌, ◌≤◌, ◌∙◌, subst, arith}
use Rattle.std.proofs.lemmas.List.{length-take-le}
use Rattle.gf2.specs.Algebra.{power_of_x, Degree, Leaves}
use Rattle.rings.proofs.Refusals.{word_accepted}
use Rattle.generators.specs.Generators.{iterate}
use Rattle.generators.specs.Orbits.{jump_word, jump_below}
use Rattle.generators.proofs.jumps.land.Goals as goal

pub returns : goal.returns
returns g c =
    let t = g.G.Generator in
    let law = g.met.G.Generator in
    let entry = c.args.g.now in
    let walked = c.keep_states.new.g in
    let m = t.meaning entry in
    let p = c.args.modulus.polynomial in
    let n = c.degree.result in
    let same = c.keep_states.ensures.same in
    let few : n ≤ 32 = omega (arith, c.degree.ensures.value, c.args.modulus.high) in
    let lands : (k : ℕ) → Leaves (power_of_x k) p c.args.residue → c.unwrap-word.result ≡ iterate m.next k (t.state entry) =
    λ k l. jump_word m (law.lawful entry) (t.state entry) (law.below entry) k c.args.residue (subst (λ (z : ℕ). Leaves (power_of_x k) z c.args.residue) c.requires l) n
    c.unwrap-word.result c.keep_states.new.states (subst (λ (z : ℕ). Degree z n) c.requires c.degree.ensures.leading) (rw length-take-le at c.keep_states.ensures.value) (rw c.unwrap-word.ensures at c.chosen_sum.ensures).1 in
    let fits : (k : ℕ) → Leaves (power_of_x k) p c.args.residue → c.unwrap-word.result < 2 ^ (t.meaning walked).cells =
    λ k l. rw (lands k l, same) (jump_below m (law.lawful entry) (t.state entry) (law.below entry) k c.args.residue (subst (λ (z : ℕ). Leaves (power_of_x k) z c.args.residue) c.requires l)) in
    record {
      same = c.load.ensures.same ∙ same;
      after = λ k l. word_accepted (t.state c.load.new.self ≡ c.unwrap-word.result) c.load.result (t.meaning walked).cells c.unwrap-word.result c.load.ensures.after (fits k l) ∙ lands k l;
    }
