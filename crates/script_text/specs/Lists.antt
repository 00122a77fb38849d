-- Lists of the names of bits with commas between them: read, each name at most once, and printed, in the order of the bits.
use Rattle.std.specs.Prelude.{ℕ, ◌==◌, bit_and, bit_or, List, [], ◌∷◌, ◌++◌, codes, Option, Some, None, option_and_then, if◌then◌else◌}
use Rattle.std.specs.Str.{bytes_eq}
use Rattle.filter_rules.specs.Rule.{has_one_of}
use Rattle.filter_rules.specs.declared.rule.RuleKind.{RuleKind}
use Rattle.filter_rules.specs.declared.rule.RuleKind.TheVariants.{Port, Ip4, Ip6, Ether}
use Rattle.script_text.specs.Pieces.{listed}
use Rattle.script_text.specs.Vocabulary.{bit_name, bit_of}
use Rattle.script_text.specs.Words.{parts_of}
use Rattle.script_text.specs.declared.vocabulary.BitNames.{BitNames}
use Rattle.script_text.specs.declared.vocabulary.BitNames.TheVariants.{Features, AddressFlags, PortFlags, Actions, Sides}
use Rattle.script_text.specs.declared.word_lists.Directions.{Directions}
use Rattle.script_text.specs.declared.word_lists.Directions.TheVariants as direction
use Rattle.script_text.specs.declared.word_lists.Protocols.{Protocols}
use Rattle.script_text.specs.declared.word_lists.Protocols.TheVariants as protocol
use Rattle.script_text.specs.declared.word_lists.Sides as sides
use Rattle.script_text.specs.declared.word_lists.Sides.TheVariants as side

-- the bits so far and those of the names behind them, no bit twice
abbrev pub bits_behind : BitNames → ℕ → List (List ℕ) → Option ℕ
bits_behind names bits [] = Some bits
bits_behind names bits (word ∷ more) =
    option_and_then (λ bit. if bit_and bits bit == 0 then bits_behind names (bit_or bits bit) more else None) (bit_of names word)

-- names with commas between them
abbrev pub bits_of : BitNames → List ℕ → Option ℕ
bits_of names list = bits_behind names 0 (parts_of 44 list)

-- a list of features, or the one word `all`
abbrev pub features_of : List ℕ → Option ℕ
features_of list = if bytes_eq list (codes "all") then Some 31 else bits_of Features list

-- source 1, target 2
abbrev pub directions_in : ℕ → Option Directions
directions_in bits =
    if bits == 1 then Some direction.Source
    else if bits == 2 then Some direction.Target
    else if bits == 3 then Some direction.Both
    else None

-- the lists of `src` and `dst`
abbrev pub directions_of : List ℕ → Option Directions
directions_of list = option_and_then directions_in (bits_of AddressFlags list)

-- TCP 1, UDP 2, as among the features
abbrev pub protocols_in : ℕ → Option Protocols
protocols_in bits =
    if bits == 1 then Some protocol.Tcp
    else if bits == 2 then Some protocol.Udp
    else if bits == 3 then Some protocol.Both
    else None

-- the lists of `tcp` and `udp`
abbrev pub protocols_of : List ℕ → Option Protocols
protocols_of list = option_and_then protocols_in (bits_of Features list)

-- entry 1, exit 2
abbrev pub sides_in : ℕ → Option sides.Sides
sides_in bits =
    if bits == 1 then Some side.Entry
    else if bits == 2 then Some side.Exit
    else if bits == 3 then Some side.Both
    else None

-- the lists of `entry` and `exit`
abbrev pub sides_of : List ℕ → Option sides.Sides
sides_of list = option_and_then sides_in (bits_of Sides list)

-- a list of actions, as their mask
abbrev pub actions_of : List ℕ → Option ℕ
actions_of list = bits_of Actions list

-- the names of the bits that are set
unfoldable pub list_text : BitNames → ℕ → List ℕ
list_text Features bits =
    listed bits 1 (bit_name Features 1) ++ (listed bits 2 (bit_name Features 2) ++ (listed bits 4 (bit_name Features 4)
    ++ (listed bits 8 (bit_name Features 8) ++ listed bits 16 (bit_name Features 16))))
list_text AddressFlags bits = listed bits 1 (bit_name AddressFlags 1) ++ listed bits 2 (bit_name AddressFlags 2)
list_text PortFlags bits =
    listed bits 1 (bit_name PortFlags 1) ++ (listed bits 2 (bit_name PortFlags 2) ++ (listed bits 4 (bit_name PortFlags 4)
    ++ listed bits 8 (bit_name PortFlags 8)))
list_text Actions bits =
    listed bits 1 (bit_name Actions 1) ++ (listed bits 2 (bit_name Actions 2) ++ (listed bits 4 (bit_name Actions 4)
    ++ (listed bits 8 (bit_name Actions 8) ++ listed bits 16 (bit_name Actions 16))))
list_text Sides bits = listed bits 1 (bit_name Sides 1) ++ listed bits 2 (bit_name Sides 2)

-- below this number are bits with names alone
abbrev pub bits_end : BitNames → ℕ
bits_end Features = 32
bits_end AddressFlags = 4
bits_end PortFlags = 16
bits_end Actions = 32
bits_end Sides = 4

-- what the flags of a rule's kind are called
abbrev pub flag_names : RuleKind → BitNames
flag_names Port = PortFlags
flag_names Ip4 = AddressFlags
flag_names Ip6 = AddressFlags
flag_names Ether = AddressFlags

unfoldable pub flags_text : RuleKind → ℕ → List ℕ
flags_text kind bits = list_text (flag_names kind) bits

-- the names of a mask's actions, or `-` where it has none
unfoldable pub mask_text : ℕ → List ℕ
mask_text mask = if has_one_of mask 31 then list_text Actions mask else codes "-"
