-- The table of `xdp-filter status`, behind its first line: the interfaces with a filter, the rows, and the packets by verdict.
use Rattle.std.specs.Prelude.{ℕ, ◌+◌, List, [], ◌∷◌, ◌++◌, find, slice_index, codes, Option, Some, None}
use Rattle.std.specs.Fmt.{decimal}
use Rattle.std.specs.Int.{w128, to_be_bytes}
use Rattle.chain_order.specs.declared.member.Kind.{Kind}
use Rattle.chain_order.specs.declared.member.Kind.TheVariants.{Program, Filter}
use Rattle.chain_order.specs.declared.member.Member.{Member}
use Rattle.filter_rules.specs.declared.policy.Policy.{Policy}
use Rattle.filter_rules.specs.declared.rule.RuleKey.{RuleKey}
use Rattle.filter_rules.specs.declared.rule.RuleKind.{RuleKind}
use Rattle.filter_rules.specs.declared.rule.RuleKind.TheVariants.{Port, Ip4, Ip6, Ether}
use Rattle.filter_rules.specs.declared.rule.RuleRow.{RuleRow}
use Rattle.hex.specs.Hex.{encode_lower}
use Rattle.script_text.specs.Lists.{flags_text, list_text}
use Rattle.script_text.specs.Vocabulary.{action_name, policy_name}
use Rattle.script_text.specs.declared.vocabulary.BitNames.TheVariants.{Features}
use Rattle.xdp_state.specs.Book.{Book}
use Rattle.xdp_state.specs.Hits.{hits_in}
use Rattle.xdp_state.specs.Members.{Attached, chain_on, is_filter}
use Rattle.xdp_state.specs.declared.hits.HitRow.{HitRow}
use Rattle.xdp_state.specs.declared.interface.Interface.{Interface}
use Rattle.xdp_state.specs.declared.tally.Tally.{Tally}
use Rattle.xio.specs.declared.action.Action.{Action}
use Rattle.xio.specs.declared.action.Action.TheVariants.{Aborted, Drop, Pass, Tx, Redirect}

-- an IPv4 address: four decimal numbers, the last four of sixteen bytes
unfoldable pub ip4_text : List ℕ → List ℕ
ip4_text bytes =
    codes "ip " ++ (decimal (slice_index bytes 12) ++ (codes "." ++ (decimal (slice_index bytes 13) ++ (codes "." ++ (decimal (slice_index bytes 14)
    ++ (codes "." ++ decimal (slice_index bytes 15)))))))

-- the lower-case digits of the byte at this place, and of two bytes from it on
abbrev pub pair : List ℕ → ℕ → List ℕ
pair bytes place = encode_lower (slice_index bytes place ∷ [])

abbrev pub group : List ℕ → ℕ → List ℕ
group bytes place = encode_lower (slice_index bytes place ∷ slice_index bytes (place + 1) ∷ [])

-- an IPv6 address: eight groups of four digits
unfoldable pub ip6_text : List ℕ → List ℕ
ip6_text bytes =
    codes "ip " ++ (group bytes 0 ++ (codes ":" ++ (group bytes 2 ++ (codes ":" ++ (group bytes 4 ++ (codes ":" ++ (group bytes 6
    ++ (codes ":" ++ (group bytes 8 ++ (codes ":" ++ (group bytes 10 ++ (codes ":" ++ (group bytes 12 ++ (codes ":" ++ group bytes 14))))))))))))))

-- an Ethernet address: six pairs of digits, the last six of sixteen bytes
unfoldable pub ether_text : List ℕ → List ℕ
ether_text bytes =
    codes "ether " ++ (pair bytes 10 ++ (codes ":" ++ (pair bytes 11 ++ (codes ":" ++ (pair bytes 12 ++ (codes ":" ++ (pair bytes 13
    ++ (codes ":" ++ (pair bytes 14 ++ (codes ":" ++ pair bytes 15))))))))))

-- a port in decimal, or an address by the sixteen bytes of its number
abbrev pub value_text : RuleKind → ℕ → List ℕ
value_text Port value = codes "port " ++ decimal value
value_text Ip4 value = ip4_text (to_be_bytes w128 value)
value_text Ip6 value = ip6_text (to_be_bytes w128 value)
value_text Ether value = ether_text (to_be_bytes w128 value)

unfoldable pub key_text : RuleKey → List ℕ
key_text key = value_text key.kind key.value

-- a row and how often it was hit
unfoldable pub row_line : RuleRow → ℕ → List ℕ
row_line row hits =
    codes "  " ++ (key_text row.key ++ (codes " " ++ (flags_text row.key.kind row.flags
    ++ (codes " #" ++ (decimal row.number ++ (codes " hits " ++ (decimal hits ++ codes "\n")))))))

-- hits are those of the row's number
abbrev pub rows_text : List HitRow → List RuleRow → List ℕ
rows_text hits [] = []
rows_text hits (row ∷ rows) = row_line row (hits_in hits row.number) ++ rows_text hits rows

-- an interface's filter
unfoldable pub filter_line : List ℕ → Policy → ℕ → List ℕ
filter_line name policy features =
    codes "  " ++ (name ++ (codes " " ++ (policy_name policy ++ codes " "))) ++ (list_text Features features ++ codes "\n")

abbrev pub kind_line : List ℕ → Kind → List ℕ
kind_line name (Program program) = []
kind_line name (Filter policy features) = filter_line name policy features

abbrev pub member_line : List ℕ → Option Member → List ℕ
member_line name (Some member) = kind_line name member.kind
member_line name None = []

-- the interfaces from this number on, those that have a filter
abbrev pub filters_from : List Attached → ℕ → List Interface → List ℕ
filters_from members place [] = []
filters_from members place (interface ∷ more) =
    member_line interface.name (find (λ member. is_filter member.kind) (chain_on members place)) ++ filters_from members (place + 1) more

-- packets and bytes of a verdict
unfoldable pub verdict_line : Action → ℕ → ℕ → List ℕ
verdict_line action packets bytes =
    codes "  " ++ (action_name action ++ (codes " " ++ (decimal packets ++ (codes " " ++ (decimal bytes ++ codes "\n")))))

unfoldable pub verdicts_text : List ℕ → List ℕ → List ℕ
verdicts_text packets bytes =
    verdict_line Aborted (slice_index packets 0) (slice_index bytes 0) ++ (verdict_line Drop (slice_index packets 1) (slice_index bytes 1)
    ++ (verdict_line Pass (slice_index packets 2) (slice_index bytes 2) ++ (verdict_line Tx (slice_index packets 3) (slice_index bytes 3)
    ++ verdict_line Redirect (slice_index packets 4) (slice_index bytes 4))))

unfoldable pub rules_text : List Interface → Book → Tally → List ℕ
rules_text interfaces book tally =
    filters_from book.members 0 interfaces ++ (rows_text tally.hits book.rows ++ verdicts_text tally.packets tally.bytes)
