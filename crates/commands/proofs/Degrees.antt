-- The degree of a word is the place of its highest bit.
use Rattle.std.proofs.Common.{◌≡◌, ℕ, ◌^◌, ◌<◌, ◌≤◌, arith}
use Rattle.gf2.specs.Algebra.{Degree}
use Rattle.gf2.proofs.Division.{degree_unique}
use Rattle.gf2.proofs.Words.{degree_word, degree_two}
use Rattle.commands.specs.Patterns.{top_bit}

pub top_bit_is : (p n : ℕ) → p < 2 ^ 32 → 1 ≤ n → Degree p n → n ≡ top_bit p
top_bit_is p n small some top =
    let two = degree_two p n top some in
    degree_unique p n (top_bit p) top (degree_word p (λ e. omega arith) small)
