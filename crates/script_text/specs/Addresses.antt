-- The addresses of filter rules, each the number of its bytes with the first one highest.
use Rattle.std.specs.Prelude.{ℕ, ◌+◌, ◌-◌, ◌*◌, ◌^◌, ◌==◌, ◌&&◌, nat_lt, nat_le, List, [], ◌∷◌, ◌++◌, length, take, drop, replicate, slice_index, Option, Some, None, option_and_then, if◌then◌else◌}
use Rattle.std.specs.Option.{option_map}
use Rattle.std.specs.Result.{result_ok}
use Rattle.byteorder.specs.Endian.{big_number}
use Rattle.hex.specs.Hex.{decode_of}
use Rattle.script_text.specs.Numbers.{number_within}
use Rattle.script_text.specs.Words.{parts_of}

-- the byte of two hexadecimal digits of either case, the high one first
unfoldable pub octet_of : ℕ → ℕ → Option ℕ
octet_of high low = option_map (λ bytes. slice_index bytes 0) (result_ok (decode_of (high ∷ low ∷ [])))

-- the bytes of pairs of digits with colons between
abbrev pub octets_of : List ℕ → Option (List ℕ)
octets_of (high ∷ low ∷ []) = option_map (λ octet. octet ∷ []) (octet_of high low)
octets_of (high ∷ low ∷ colon ∷ more) =
    if colon == 58 then option_and_then (λ octet. option_map (λ octets. octet ∷ octets) (octets_of more)) (octet_of high low)
    else None
octets_of _ = None

-- an Ethernet address (IEEE 802): six bytes
abbrev pub ether_of : List ℕ → Option ℕ
ether_of word =
    option_and_then (λ octets. if length octets == 6 then Some (big_number 6 octets) else None) (octets_of word)

-- a decimal number up to 255
unfoldable pub decimal_octet : List ℕ → Option ℕ
decimal_octet part = number_within 0 255 part

-- the number of four of them
abbrev pub ip4_of_parts : List (List ℕ) → Option ℕ
ip4_of_parts (a ∷ b ∷ c ∷ d ∷ []) =
    option_and_then (λ a. option_and_then (λ b. option_and_then (λ c. option_map (λ d. big_number 4 (a ∷ b ∷ c ∷ d ∷ []))
    (decimal_octet d)) (decimal_octet c)) (decimal_octet b)) (decimal_octet a)
ip4_of_parts _ = None

-- an IPv4 address: four numbers with dots between them
unfoldable pub ip4_of : List ℕ → Option ℕ
ip4_of word = ip4_of_parts (parts_of 46 word)

-- groups of 16 bits: how many, and their number
pub record Groups : Type 0 where
  pub count : ℕ
  pub number : ℕ

-- one to four digits, with zeros in front of them up to the fourth
abbrev pub four_digits : List ℕ → Option (List ℕ)
four_digits digits =
    if nat_le 1 (length digits) && nat_le (length digits) 4 then Some (replicate (4 - length digits) 48 ++ digits) else None

-- the number of one to four hexadecimal digits of either case
unfoldable pub group_of : List ℕ → Option ℕ
group_of digits =
    option_and_then (λ four. option_map (λ bytes. big_number 2 bytes) (result_ok (decode_of four))) (four_digits digits)

-- the groups so far and those behind them, at most eight
abbrev pub groups_behind : Groups → List (List ℕ) → Option Groups
groups_behind groups [] = Some groups
groups_behind groups (part ∷ parts) =
    if groups.count == 8 then None
    else option_and_then (λ group. groups_behind (record { count = groups.count + 1; number = groups.number * 65536 + group }) parts) (group_of part)

-- no groups
abbrev pub no_groups : Groups
no_groups = record { count = 0; number = 0 }

-- groups with colons between them, or none
unfoldable pub groups_of : List ℕ → Option Groups
groups_of text = if length text == 0 then Some no_groups else groups_behind no_groups (parts_of 58 text)

-- the place of the first `::`
abbrev pub gap_of : List ℕ → Option ℕ
gap_of (a ∷ b ∷ more) = if (a == 58) && (b == 58) then Some 0 else option_map (λ place. place + 1) (gap_of (b ∷ more))
gap_of _ = None

-- all eight groups
abbrev pub whole_of : Groups → Option ℕ
whole_of groups = if groups.count == 8 then Some groups.number else None

-- the groups before `::` stand highest, those behind it lowest, and at least one group of zero stands between
abbrev pub sides_of : Groups → Groups → Option ℕ
sides_of high low =
    if nat_lt (high.count + low.count) 8 then Some (high.number * 65536 ^ (8 - high.count) + low.number) else None

abbrev pub ip6_around : List ℕ → Option ℕ → Option ℕ
ip6_around word None = option_and_then whole_of (groups_of word)
ip6_around word (Some place) =
    option_and_then (λ high. option_and_then (sides_of high) (groups_of (drop (place + 2) word))) (groups_of (take place word))

-- an IPv6 address (RFC 4291, 2.2, without dotted tails): eight groups with colons between them, where one `::` may stand for
-- one or more groups of zero
unfoldable pub ip6_of : List ℕ → Option ℕ
ip6_of word = ip6_around word (gap_of word)
