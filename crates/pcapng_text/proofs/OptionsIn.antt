-- The options in bytes, option by option.
use Rattle.std.proofs.Common.{◌≡◌, ℕ, zero, suc, ◌+◌, ◌-◌, ◌<◌, ◌≤◌, Bool, true, false, nat_le, IsTrue, List, [], ◌∷◌, drop, length, Option, Some, None, find, eqb, refl, ap, sym, ◌∙◌, arith}
use Rattle.std.proofs.lemmas.List.{take_rest}
use Rattle.std.specs.List.{list_all}
use Rattle.pcapng_text.specs.declared.endian.Endian.{Endian}
use Rattle.pcapng_text.specs.Options.{are_inside, has_option, option_code, option_length, option_of, option_size, padded, options_behind, options_in}

-- an option has four bytes at least
pub option_length_some : (endian : Endian) (option : List ℕ) → 4 ≤ option_length endian option
unfolding option_length
option_length_some endian option = omega arith

-- an option has the bytes of its value
pub option_size-le : (endian : Endian) (option : List ℕ) → 4 + option_size endian option ≤ option_length endian option
unfolding option_length padded
option_size-le endian option = omega arith

-- bytes that belong to an option before are dropped
options_behind-drop : (endian : Endian) (passed : ℕ) (bytes : List ℕ) → options_behind endian passed bytes ≡ options_in endian (drop passed bytes)
options_behind-drop endian zero bytes = refl
options_behind-drop endian (suc passed) [] = refl
options_behind-drop endian (suc passed) (b ∷ bytes) = options_behind-drop endian passed bytes

-- there are none where none stands
pub options_in_none : (endian : Endian) (bytes : List ℕ) → has_option endian bytes ≡ false → options_in endian bytes ≡ []
options_in_none endian [] h = refl
options_in_none endian (b ∷ bytes) h = rw h refl

-- the first, and those behind its bytes
pub options_in_more : (endian : Endian) (bytes : List ℕ) → has_option endian bytes ≡ true → 0 < length bytes → options_in endian bytes ≡ bytes ∷ options_in endian (drop (option_length endian bytes) bytes)
options_in_more endian [] h some = absurd (omega arith)
options_in_more endian (b ∷ bytes) h some =
    let size : option_length endian (b ∷ bytes) ≡ suc (option_length endian (b ∷ bytes) - 1) = omega (arith, option_length_some endian (b ∷ bytes)) in
    rw h (ap (λ options. (b ∷ bytes) ∷ options) (options_behind-drop endian (option_length endian (b ∷ bytes) - 1) bytes ∙ ap (λ n. options_in endian (drop n (b ∷ bytes))) (sym size)))

-- where no option stands, none passes the end
pub are_inside-none : (endian : Endian) (bytes : List ℕ) → has_option endian bytes ≡ false → are_inside endian bytes ≡ true
unfolding are_inside
are_inside-none endian bytes h = rw (options_in_none endian bytes h) refl

-- an option that is inside leaves it to those behind it
pub are_inside-more : (endian : Endian) (bytes : List ℕ) → has_option endian bytes ≡ true → 0 < length bytes → option_length endian bytes ≤ length bytes → are_inside endian (drop (option_length endian bytes) bytes) ≡ are_inside endian bytes
unfolding are_inside
are_inside-more endian bytes h some inside =
    let here : nat_le (option_length endian bytes) (length bytes) ≡ true = grind arith in
    rw (options_in_more endian bytes h some, here) refl

-- and one that passes the end decides
pub are_inside-past : (endian : Endian) (bytes : List ℕ) → has_option endian bytes ≡ true → 0 < length bytes → length bytes < option_length endian bytes → are_inside endian bytes ≡ false
unfolding are_inside
are_inside-past endian bytes h some past =
    let here : nat_le (option_length endian bytes) (length bytes) ≡ false = grind arith in
    rw (options_in_more endian bytes h some, here) refl

-- the first option is inside where all are
pub inside_first : (endian : Endian) (bytes : List ℕ) → has_option endian bytes ≡ true → 0 < length bytes → are_inside endian bytes ≡ true → option_length endian bytes ≤ length bytes
unfolding are_inside
inside_first endian bytes h some inside = grind (arith, options_in_more endian bytes h some)

-- there is no option of a code where none stands
pub option_of-none : (endian : Endian) (code : ℕ) (bytes : List ℕ) → has_option endian bytes ≡ false → option_of endian code bytes ≡ None
unfolding option_of
option_of-none endian code bytes h = rw (options_in_none endian bytes h) refl

pub option_of-here : (endian : Endian) (code : ℕ) (bytes : List ℕ) → has_option endian bytes ≡ true → 0 < length bytes → option_code endian bytes ≡ code → option_of endian code bytes ≡ Some bytes
unfolding option_of
option_of-here endian code bytes h some same =
    let here : eqb (option_code endian bytes) code ≡ true = grind arith in
    rw (options_in_more endian bytes h some, here) refl

pub option_of-more : (endian : Endian) (code : ℕ) (bytes : List ℕ) → has_option endian bytes ≡ true → 0 < length bytes → (option_code endian bytes ≡ code → ⊥) → option_of endian code (drop (option_length endian bytes) bytes) ≡ option_of endian code bytes
unfolding option_of
option_of-more endian code bytes h some other =
    let here : eqb (option_code endian bytes) code ≡ false = grind arith in
    rw (options_in_more endian bytes h some, here) refl

pub ruleset in_order = (take_rest, are_inside-none, are_inside-more, are_inside-past, inside_first, option_of-none, option_of-here, option_of-more, option_length_some, option_size-le)
