-- What is printed reads back.
use Rattle.std.proofs.Common.{◌≡◌, ℕ, zero, suc, ◌+◌, ◌*◌, ◌/◌, ◌%◌, ◌<◌, ◌≤◌, ◌^◌, ◌&&◌, Bool, true, false, List, [], ◌∷◌, length, Option, Some, None, Ok, refl, ◌∙◌, sym, subst, inl, inr, ap, arith}
use Rattle.std.proofs.lemmas.Bool.{false≢true}
use Rattle.std.specs.Prelude.{◌==◌, slice_index, if◌then◌else◌}
use Rattle.byteorder.specs.Endian.{big_number}
use Rattle.std.specs.Fmt.{decimal}
use Rattle.std.specs.Str.Parse.{AllDigits}
use Rattle.std.proofs.lemmas.Bool.Decides.{nat_tests, eqb_tells}
use Rattle.std.proofs.lemmas.Fmt.{decimal_is_IsNumeral, length-decimal-le}
use Rattle.hex.specs.Hex.{IsBytes, decode_of, encode_lower, encode_with, lower_digits}
use Rattle.hex.proofs.HexLemmas.{decode_of-encode_lower}
use Rattle.script_text.specs.Frames.{has_frame_size, frame_of}
use Rattle.script_text.specs.Addresses.{group_of, octet_of, octets_of}
use Rattle.script_text.specs.Filter.{direction_flags, protocol_flags}
use Rattle.script_text.specs.Lists.{bits_end, bits_of, directions_of, list_text, protocols_of}
use Rattle.script_text.specs.declared.vocabulary.BitNames.{BitNames}
use Rattle.script_text.specs.declared.vocabulary.BitNames.TheVariants.{Features, AddressFlags, PortFlags, Actions, Sides}
use Rattle.script_text.specs.declared.word_lists.Directions.{Directions}
use Rattle.script_text.specs.declared.word_lists.Directions.TheVariants as direction
use Rattle.script_text.specs.declared.word_lists.Protocols.{Protocols}
use Rattle.script_text.specs.declared.word_lists.Protocols.TheVariants as protocol
use Rattle.script_text.specs.Numbers.{are_digits, number_of}

are_digits-all : (digits : List ℕ) → AllDigits 10 digits → are_digits digits ≡ true
unfolding are_digits
are_digits-all [] all = refl
are_digits-all (digit ∷ digits) all = grind (arith, nat_tests, all.0, are_digits-all digits all.1)

pub numbers_back : (number : ℕ) → number < 2 ^ 64 → number_of (decimal number) ≡ Some number
numbers_back number small =
    let numeral = decimal_is_IsNumeral number small in
    let short : length (decimal number) ≤ 20 = length-decimal-le 20 number (omega arith) (omega arith) small in
    let some : 1 ≤ length (decimal number) = omega (arith, numeral.0.0) in
    let digits : are_digits (decimal number) ≡ true = are_digits-all (decimal number) numeral.0.1 in
    grind (arith, nat_tests, digits, numeral.1)

pub frames_back : (frame : List ℕ) → IsBytes frame → has_frame_size frame ≡ true → frame_of (encode_lower frame) ≡ Some frame
frames_back frame bytes sized = rw (decode_of-encode_lower frame bytes, sized) refl

-- whether an option is this number
abbrev is_the : Option ℕ → ℕ → Bool
is_the (Some m) n = m == n
is_the None n = false

-- whether all numbers below a bound but 0 pass
abbrev all_below : (ℕ → Bool) → ℕ → Bool
all_below p zero = true
all_below p (suc n) = (if n == 0 then true else p n) && all_below p n

from_all_below : (p : ℕ → Bool) (bound n : ℕ) → all_below p bound ≡ true → 0 < n → n < bound → p n ≡ true
from_all_below p zero n all some within = absurd (omega arith)
from_all_below p (suc bound) n all some within =
    elim (eqb_tells n bound) [
      | inl here ↦ subst (λ (m : ℕ). p m ≡ true) (sym here.1) (last bound (subst (λ (m : ℕ). 0 < m) here.1 some) all)
      | inr differs ↦ from_all_below p bound n (front bound all) some (let other = differs.1 in omega (arith, other))
    ]
  where
    last : (m : ℕ) → 0 < m → ((if m == 0 then true else p m) && all_below p m) ≡ true → p m ≡ true
    last m some both = grind (arith, nat_tests, both, some)

    front : (m : ℕ) → ((if m == 0 then true else p m) && all_below p m) ≡ true → all_below p m ≡ true
    front m both = grind (arith, nat_tests, both)

the_option : (o : Option ℕ) (n : ℕ) → is_the o n ≡ true → o ≡ Some n
the_option (Some m) n same = ap Some (grind (arith, nat_tests, same))
the_option None n same = absurd (false≢true same)

-- the lists of each table, computed
lists_below : (names : BitNames) → all_below (λ n. is_the (bits_of names (list_text names n)) n) (bits_end names) ≡ true
unfolding list_text
lists_below Features = refl
lists_below AddressFlags = refl
lists_below PortFlags = refl
lists_below Actions = refl
lists_below Sides = refl

pub lists_back : (names : BitNames) (bits : ℕ) → 0 < bits → bits < bits_end names → bits_of names (list_text names bits) ≡ Some bits
lists_back names bits some within =
    the_option _ bits (from_all_below (λ n. is_the (bits_of names (list_text names n)) n) (bits_end names) bits (lists_below names) some within)

pub directions_back : (d : Directions) → directions_of (list_text AddressFlags (direction_flags d)) ≡ Some d
unfolding list_text
directions_back direction.Source = refl
directions_back direction.Target = refl
directions_back direction.Both = refl

pub protocols_back : (p : Protocols) → protocols_of (list_text Features (protocol_flags p)) ≡ Some p
unfolding list_text
protocols_back protocol.Tcp = refl
protocols_back protocol.Udp = refl
protocols_back protocol.Both = refl

one_byte : (a : ℕ) → a < 256 → IsBytes (a ∷ [])
one_byte a below zero = below
one_byte a below (suc i) = omega arith

two_bytes : (a b : ℕ) → a < 256 → b < 256 → IsBytes (a ∷ b ∷ [])
two_bytes a b first second zero = first
two_bytes a b first second (suc i) = one_byte b second i

octet_from : (a b octet : ℕ) → decode_of (a ∷ b ∷ []) ≡ Ok (octet ∷ []) → octets_of (a ∷ b ∷ []) ≡ Some (octet ∷ [])
unfolding octet_of
octet_from a b octet is = rw is refl

group_from : (a b c d : ℕ) (bytes : List ℕ) → decode_of (a ∷ b ∷ c ∷ d ∷ []) ≡ Ok bytes → group_of (a ∷ b ∷ c ∷ d ∷ []) ≡ Some (big_number 2 bytes)
unfolding group_of
group_from a b c d bytes is = rw is refl

-- the lower-case digit of a value
abbrev digit_of : ℕ → ℕ
digit_of value = slice_index lower_digits value

pub octets_back : (octet : ℕ) → octet < 256 → octets_of (encode_lower (octet ∷ [])) ≡ Some (octet ∷ [])
unfolding encode_with
octets_back octet below =
    octet_from (digit_of (octet / 16)) (digit_of (octet % 16)) octet (decode_of-encode_lower (octet ∷ []) (one_byte octet below))

pub groups_back : (high low : ℕ) → high < 256 → low < 256 → group_of (encode_lower (high ∷ low ∷ [])) ≡ Some (high * 256 + low)
unfolding encode_with
groups_back high low first second =
    let number : big_number 2 (high ∷ low ∷ []) ≡ high * 256 + low = omega arith in
    group_from (digit_of (high / 16)) (digit_of (high % 16)) (digit_of (low / 16)) (digit_of (low % 16)) (high ∷ low ∷ [])
    (decode_of-encode_lower (high ∷ low ∷ []) (two_bytes high low first second)) ∙ ap Some number
