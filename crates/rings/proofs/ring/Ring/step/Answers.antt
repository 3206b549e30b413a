use Rattle.std.proofs.Common.{ℕ, ◌-◌, ◌*◌, ◌/◌, ◌%◌, ◌^◌, refl, ◌∙◌, ap₂}
use lib.Bits.{bit_and, bit_xor}
use Rattle.rings.proofs.Steps.{ring_word}
use Rattle.rings.proofs.ring.Ring.step.Goals as goal

pub returns : goal.returns
returns c =
    let ring = c.args.self.now in
    let s = ring.state in
    record {
      vector = refl;
      polynomial = refl;
      after =
          ap₂ (λ (x y : ℕ). bit_and (bit_xor (bit_xor (s * 2 % 2 ^ 32) (bit_and s x)) (s / 2)) (1 * 2 ^ y % 2 ^ 32 - 1)) c.rules.ensures c.cells.ensures
          ∙ ring_word ring.vector.cells ring.vector.rules s ring.vector.few ring.below;
    }
