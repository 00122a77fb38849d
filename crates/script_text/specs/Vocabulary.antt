-- The words of the script's and the texts' choices.
use Rattle.std.specs.Prelude.{ℕ, ◌==◌, List, codes, Option, Some, None, if◌then◌else◌}
use Rattle.std.specs.Str.{bytes_eq}
use Rattle.filter_rules.specs.declared.policy.Policy.{Policy}
use Rattle.filter_rules.specs.declared.policy.Policy.TheVariants.{Allow, Deny}
use Rattle.xdp_state.specs.declared.mode.Mode.{Mode}
use Rattle.xdp_state.specs.declared.mode.Mode.TheVariants.{Native, Skb}
use Rattle.script_text.specs.declared.vocabulary.BitNames.{BitNames}
use Rattle.script_text.specs.declared.vocabulary.BitNames.TheVariants.{Features, AddressFlags, PortFlags, Actions, Sides}
use Rattle.xio.specs.declared.action.Action.{Action}
use Rattle.xio.specs.declared.action.Action.TheVariants.{Aborted, Drop, Pass, Tx, Redirect}

abbrev pub action_name : Action → List ℕ
action_name Aborted = codes "aborted"
action_name Drop = codes "drop"
action_name Pass = codes "pass"
action_name Tx = codes "tx"
action_name Redirect = codes "redirect"

abbrev pub action_of : List ℕ → Option Action
action_of word =
    if bytes_eq word (action_name Aborted) then Some Aborted
    else if bytes_eq word (action_name Drop) then Some Drop
    else if bytes_eq word (action_name Pass) then Some Pass
    else if bytes_eq word (action_name Tx) then Some Tx
    else if bytes_eq word (action_name Redirect) then Some Redirect
    else None

abbrev pub policy_name : Policy → List ℕ
policy_name Allow = codes "allow"
policy_name Deny = codes "deny"

abbrev pub policy_of : List ℕ → Option Policy
policy_of word =
    if bytes_eq word (policy_name Allow) then Some Allow
    else if bytes_eq word (policy_name Deny) then Some Deny
    else None

abbrev pub mode_name : Mode → List ℕ
mode_name Native = codes "native"
mode_name Skb = codes "skb"

-- `unspecified` is native too
abbrev pub mode_of : List ℕ → Option Mode
mode_of word =
    if bytes_eq word (mode_name Native) then Some Native
    else if bytes_eq word (mode_name Skb) then Some Skb
    else if bytes_eq word (codes "unspecified") then Some Native
    else None

-- of an address: 1 is the source, 2 the target
abbrev pub address_flag_name : ℕ → List ℕ
address_flag_name bit = if bit == 1 then codes "src" else codes "dst"

abbrev pub address_flag_of : List ℕ → Option ℕ
address_flag_of word =
    if bytes_eq word (address_flag_name 1) then Some 1
    else if bytes_eq word (address_flag_name 2) then Some 2
    else None

-- of a port: 1, 2, 4 or 8
abbrev pub port_flag_name : ℕ → List ℕ
port_flag_name bit =
    if bit == 1 then codes "src-tcp"
    else if bit == 2 then codes "src-udp"
    else if bit == 4 then codes "dst-tcp"
    else codes "dst-udp"

abbrev pub port_flag_of : List ℕ → Option ℕ
port_flag_of word =
    if bytes_eq word (port_flag_name 1) then Some 1
    else if bytes_eq word (port_flag_name 2) then Some 2
    else if bytes_eq word (port_flag_name 4) then Some 4
    else if bytes_eq word (port_flag_name 8) then Some 8
    else None

-- by the feature's bit: 1, 2, 4, 8 or 16
abbrev pub feature_name : ℕ → List ℕ
feature_name bit =
    if bit == 1 then codes "tcp"
    else if bit == 2 then codes "udp"
    else if bit == 4 then codes "ipv4"
    else if bit == 8 then codes "ipv6"
    else codes "ethernet"

abbrev pub feature_of : List ℕ → Option ℕ
feature_of word =
    if bytes_eq word (feature_name 1) then Some 1
    else if bytes_eq word (feature_name 2) then Some 2
    else if bytes_eq word (feature_name 4) then Some 4
    else if bytes_eq word (feature_name 8) then Some 8
    else if bytes_eq word (feature_name 16) then Some 16
    else None

-- by the bit of the action's number, as libxdp names actions
abbrev pub action_bit_name : ℕ → List ℕ
action_bit_name bit =
    if bit == 1 then codes "XDP_ABORTED"
    else if bit == 2 then codes "XDP_DROP"
    else if bit == 4 then codes "XDP_PASS"
    else if bit == 8 then codes "XDP_TX"
    else codes "XDP_REDIRECT"

abbrev pub action_bit_of : List ℕ → Option ℕ
action_bit_of word =
    if bytes_eq word (action_bit_name 1) then Some 1
    else if bytes_eq word (action_bit_name 2) then Some 2
    else if bytes_eq word (action_bit_name 4) then Some 4
    else if bytes_eq word (action_bit_name 8) then Some 8
    else if bytes_eq word (action_bit_name 16) then Some 16
    else None

-- of a program: 1 as a packet enters it, 2 as it leaves
abbrev pub side_name : ℕ → List ℕ
side_name bit = if bit == 1 then codes "entry" else codes "exit"

abbrev pub side_of : List ℕ → Option ℕ
side_of word =
    if bytes_eq word (side_name 1) then Some 1
    else if bytes_eq word (side_name 2) then Some 2
    else None

-- the word of a bit, and the bit of a word
abbrev pub bit_name : BitNames → ℕ → List ℕ
bit_name Features bit = feature_name bit
bit_name AddressFlags bit = address_flag_name bit
bit_name PortFlags bit = port_flag_name bit
bit_name Actions bit = action_bit_name bit
bit_name Sides bit = side_name bit

abbrev pub bit_of : BitNames → List ℕ → Option ℕ
bit_of Features word = feature_of word
bit_of AddressFlags word = address_flag_of word
bit_of PortFlags word = port_flag_of word
bit_of Actions word = action_bit_of word
bit_of Sides word = side_of word
