use Rattle.std.proofs.Common.{true, ◌∙◌, arith}
use Rattle.words.proofs.Values.{all_digits_more, value_more}
use Rattle.words.proofs.numbers.number.Goals as goal

pub loop-byte-preserved : goal.loop-byte-preserved
loop-byte-preserved c =
    let word = c.args.word.now in
    let here = c.loop-byte-test.true in (
      c.loop-byte.invariant.0 ∙ all_digits_more word _ true here c.if-not-is_ascii_digit.ensures.value,
      omega (arith, value_more word c.loop-byte.byte-index here),
    )
