-- Numbers, in decimal digits.
use Rattle.std.specs.Prelude.{ℕ, ◌==◌, ◌&&◌, Bool, nat_lt, nat_le, List, length, slice_index, Option, Some, None, option_and_then, if◌then◌else◌}
use Rattle.std.specs.Char.{is_digit}
use Rattle.std.specs.List.{list_all}
use Rattle.std.specs.Str.Parse.{digits_value}

unfoldable pub are_digits : List ℕ → Bool
are_digits digits = list_all (λ c. is_digit c 10) digits

-- their number
abbrev pub numeral : List ℕ → Option ℕ
numeral digits = if are_digits digits then Some (digits_value 10 digits) else None

-- 1 to 20 digits
abbrev pub number_of : List ℕ → Option ℕ
number_of word = if nat_le 1 (length word) && nat_le (length word) 20 then numeral word else None

-- such a number in a range, both ends among it
abbrev pub number_within : ℕ → ℕ → List ℕ → Option ℕ
number_within low high word =
    option_and_then (λ n. if nat_le low n && nat_le n high then Some n else None) (number_of word)

-- a zero stands in front of other digits
abbrev pub has_zero_in_front : List ℕ → Bool
has_zero_in_front word = nat_lt 1 (length word) && (slice_index word 0 == 48)

-- a number below 2^32 as it is printed
unfoldable pub printed_number : List ℕ → Option ℕ
printed_number word = if has_zero_in_front word then None else number_within 0 4294967295 word
