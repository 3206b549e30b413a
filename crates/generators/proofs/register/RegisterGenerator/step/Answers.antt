use Rattle.std.proofs.Common.{ℕ, ◌-◌, ◌*◌, ◌%◌, ◌^◌, refl, ◌∙◌, ap₂}
use lib.Bits.{bit_and, bit_or}
use lib.Count.{ones}
use Rattle.generators.specs.RegisterLaws.{register_word}
use Rattle.generators.proofs.register.RegisterGenerator.step.Goals as goal

pub returns : goal.returns
returns c =
    let register = c.args.self.now in
    let m = register.modulus in
    let s = register.state in
    record {
      same = refl;
      after =
          ap₂ (λ (x y : ℕ). bit_and (bit_or (s * 2 % 2 ^ 32) (bit_and (ones (bit_and s x)) 1)) (1 * 2 ^ y % 2 ^ 32 - 1)) register.tapped c.degree.ensures.value
          ∙ register_word m.polynomial m.degree s m.high register.below;
    }
