use Rattle.std.proofs.Common.{◌≡◌, ap, ◌∙◌, arith}
use Rattle.commands.specs.Patterns.{top_bit}
use Rattle.commands.proofs.Degrees.{top_bit_is}
use Rattle.commands.proofs.command.Moment.register_pattern.Goals as goal

pub returns : goal.returns
returns c =
    let p = c.args.polynomial in
    let modulus = c.over.result.below.modulus in
    let made = c.in_ok-register.ensures in
    let own : modulus.polynomial ≡ p = ap (λ z. z.modulus.polynomial) c.over.ensures.0 ∙ made.1.0 in
    let degree : modulus.degree ≡ top_bit p = top_bit_is p modulus.degree (omega arith) modulus.low (rw own at modulus.leading) in
    rw made.0 (rw (own, degree, c.over.ensures.1, c.over.ensures.2) at c.pattern_of.ensures)
