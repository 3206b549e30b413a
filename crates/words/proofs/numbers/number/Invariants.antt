use Rattle.std.proofs.Common.{◌≡◌, ◌-◌, ◌^◌, min, take, drop}
use Rattle.words.specs.Numbers.{all_digits, value}
use Rattle.words.proofs.numbers.number.Given as goal

-- the bytes so far are digits, so that those to come decide; and they write the sum, up to its limit
abbrev pub invariant-loop-byte : goal.invariant-loop-byte
invariant-loop-byte l = (all_digits l.word ≡ all_digits (drop l.byte-index l.word)) × (l.sum ≡ min (value (take l.byte-index l.word)) (2 ^ 64 - 1))
