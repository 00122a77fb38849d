-- What a filter asks of its rows about a frame, and what it makes of the frame.
use Rattle.std.specs.Option.{option_map, option_or, unwrap_or}
use Rattle.std.specs.Prelude.{ℕ, List, [], ◌∷◌, ◌++◌, find, if◌then◌else◌, Option, Some, None}
use Rattle.filter_rules.specs.Policy.{hit_action, miss_action}
use Rattle.filter_rules.specs.Rule.{has_one_of, answers}
use Rattle.filter_rules.specs.declared.policy.Policy.{Policy}
use Rattle.filter_rules.specs.declared.rule.RuleKey.{RuleKey}
use Rattle.filter_rules.specs.declared.rule.RuleKind.{RuleKind}
use Rattle.filter_rules.specs.declared.rule.RuleKind.TheVariants.{Port, Ip4, Ip6, Ether}
use Rattle.filter_rules.specs.declared.rule.RuleRow.{RuleRow}
use Rattle.filter_rules.specs.declared.verdict.FilterEnd.{FilterEnd}
use Rattle.filter_rules.specs.declared.verdict.FilterEnd.TheVariants.{Hit, Miss, Cut}
use Rattle.net_headers.specs.declared.fields.Headers.{Headers}
use Rattle.net_headers.specs.declared.fields.Net.{Net}
use Rattle.net_headers.specs.declared.fields.Net.TheVariants as net
use Rattle.net_headers.specs.declared.fields.Ports.{Ports}
use Rattle.net_headers.specs.declared.fields.Ports.TheVariants as ports

-- whether a row has the key and the flag, or the mark of a header in which the frame ends
pub data Item : Type 0 where
  Ask : RuleKey → ℕ → Item
  Mark : Item

abbrev pub question : RuleKind → ℕ → ℕ → Item
question kind value flag = Ask (record { kind = kind; value = value }) flag

-- the items where one of these features is on
abbrev pub where_on : ℕ → ℕ → List Item → List Item
where_on features wanted items = if has_one_of features wanted then items else []

-- an address's flags: 1 source, 2 target
abbrev pub addresses : RuleKind → ℕ → ℕ → List Item
addresses kind target source = question kind target 2 ∷ question kind source 1 ∷ []

-- features: 1 tcp, 2 udp, 4 ipv4, 8 ipv6, 16 ethernet
abbrev pub ethernet_items : ℕ → Headers → List Item
ethernet_items features headers = where_on features 16 (addresses Ether headers.target headers.source)

abbrev pub net_items : ℕ → Net → List Item
net_items features net.Absent = []
net_items features net.Cut = where_on features 15 (Mark ∷ [])
net_items features (net.V4 source target) = where_on features 4 (addresses Ip4 target source)
net_items features (net.V6 source target) = where_on features 8 (addresses Ip6 target source)

-- a port's flags: 1 source of TCP, 2 source of UDP, 4 target of TCP, 8 target of UDP
abbrev pub port_items : ℕ → Ports → List Item
port_items features ports.Absent = []
port_items features ports.Cut = where_on features 3 (Mark ∷ [])
port_items features (ports.Tcp source target) =
    where_on features 1 (question Port target 4 ∷ question Port source 1 ∷ [])
port_items features (ports.Udp source target) =
    where_on features 2 (question Port target 8 ∷ question Port source 2 ∷ [])

abbrev pub items : ℕ → Headers → List Item
items features headers =
    ethernet_items features headers ++ net_items features headers.net ++ port_items features headers.ports

-- The first item decides that a row answers or that is the mark.
abbrev pub decided : List RuleRow → Policy → List Item → Option FilterEnd
decided rows policy [] = None
decided rows policy (Mark ∷ more) = Some Cut
decided rows policy (Ask key flag ∷ more) =
    option_or (option_map (λ row. Hit row.number (hit_action policy)) (find (answers key flag) rows))
    (decided rows policy more)

abbrev pub verdict : List RuleRow → Headers → Policy → ℕ → FilterEnd
verdict rows headers policy features =
    unwrap_or (decided rows policy (items features headers)) (Miss (miss_action policy))
