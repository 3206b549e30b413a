-- What one byte of a word does to the test of its digits and to its value.
use Rattle.std.proofs.Common.{◌≡◌, ℕ, ◌+◌, ◌-◌, ◌*◌, ◌<◌, Bool, ◌&&◌, List, map, length, get_or, take, drop, sym, ap, ◌∙◌}
use Rattle.std.specs.Int.Digits.{number_from_digits}
use Rattle.std.proofs.lemmas.Int.Digits.{number_push}
use Rattle.std.proofs.lemmas.List.{at_drop_more, map_more}
use Rattle.words.specs.Numbers.{is_digit, all_digits, value}

pub all_digits_more : (w : List ℕ) (i : ℕ) (t : Bool) → i < length w → t ≡ is_digit (get_or w i 0) → all_digits (drop i w) ≡ (t && all_digits (drop (i + 1) w))
all_digits_more w i t h e = at_drop_more all_digits w i 0 h ∙ ap (λ s. s && all_digits (drop (i + 1) w)) (sym e)

pub value_more : (w : List ℕ) (i : ℕ) → i < length w → value (take (i + 1) w) ≡ value (take i w) * 10 + (get_or w i 0 - 48)
value_more w i h = ap (number_from_digits 10) (map_more (λ b. b - 48) w i 0 h) ∙ number_push 10 (map (λ b. b - 48) (take i w)) _
