-- Numbers digit by digit.
use Rattle.std.proofs.Common.{◌≡◌, ℕ, ◌+◌, ◌*◌, ◌^◌, ◌<◌, ◌≤◌, true, false, List, length, take, get_or, Some, None, refl, arith}
use Rattle.std.specs.Char.{is_digit, digit_value}
use Rattle.std.specs.Str.Parse.{digits_value}
use Rattle.std.proofs.Math.Nat.{pow-le-pow_right}
use Rattle.std.proofs.lemmas.Bool.Decides.{nat_tests}
use Rattle.std.proofs.lemmas.List.{take_all}
use Rattle.std.proofs.lemmas.List.Folds.{list_all_more, list_all_at}
use Rattle.std.proofs.lemmas.Nat.{pow-add}
use Rattle.script_text.specs.Numbers.{are_digits, numeral}

-- one digit more
pub digit_room : (n v i : ℕ) → n < 10 ^ i → v < 10 → n * 10 + v < 10 ^ (i + 1)
digit_room n v i small below =
    let next : 10 ^ (i + 1) ≡ 10 ^ i * 10 = pow-add 10 i 1 in
    omega arith

pub digit_fits : (n v i : ℕ) → n < 10 ^ i → v < 10 → i < 20 → n * 10 + v < 2 ^ 128
digit_fits n v i small below few =
    let room = digit_room n v i small below in
    let more : 10 ^ (i + 1) ≤ 10 ^ 20 = pow-le-pow_right {n = 10} (omega arith) {i = i + 1} {j = 20} (omega arith) in
    omega arith

pub are_digits-more : (xs : List ℕ) (i : ℕ) → i < length xs → are_digits (take i xs) ≡ true
    → digit_value (get_or xs i 0) < 10 → are_digits (take (i + 1) xs) ≡ true
unfolding are_digits
are_digits-more xs i within before digit = grind (arith, nat_tests, before, list_all_more (λ c. is_digit c 10) xs i 0 within)

-- a byte that is no digit
pub numeral-none : (xs : List ℕ) (i : ℕ) → i < length xs → (digit_value (get_or xs i 0) < 10 → ⊥) → numeral xs ≡ None
unfolding are_digits
numeral-none xs i within other =
    let no_digit : is_digit (get_or xs i 0) 10 ≡ false = grind (arith, nat_tests, other) in
    let fails = list_all_at (λ c. is_digit c 10) xs i 0 within no_digit in
    rw fails refl

-- all are digits
pub numeral-all : (xs : List ℕ) (i : ℕ) → length xs ≤ i → are_digits (take i xs) ≡ true
    → Some (digits_value 10 (take i xs)) ≡ numeral xs
numeral-all xs i whole digits =
    let all = take_all i xs whole in
    let same : are_digits xs ≡ true = rw all at digits in
    rw (all, same) refl
