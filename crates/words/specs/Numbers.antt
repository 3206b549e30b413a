-- Decimal numbers: words of digits, with leading zeros as they like and no sign.
--
--   is_digit b    == the byte is one of '0' to '9'
--   all_digits w  == each byte of w is a digit
--   is_number w   == w has a byte, and only digits
--   value w       == the number that the digits of w write, the highest first
use Rattle.std.specs.Prelude.{ℕ, ◌-◌, Bool, true, false, ◌&&◌, List, [], ◌∷◌, map, nat_le}
use Rattle.std.specs.Int.Digits.{number_from_digits}

abbrev pub is_digit : ℕ → Bool
is_digit b = nat_le 48 b && nat_le b 57

abbrev pub all_digits : List ℕ → Bool
all_digits [] = true
all_digits (b ∷ w) = is_digit b && all_digits w

abbrev pub is_number : List ℕ → Bool
is_number [] = false
is_number (b ∷ w) = all_digits (b ∷ w)

abbrev pub value : List ℕ → ℕ
value w = number_from_digits 10 (map (λ b. b - 48) w)
