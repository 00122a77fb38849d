use Rattle.std.specs.Prelude.{ℕ, ◌==◌, ◌&&◌, Bool, true, false, bit_and, not}
use Rattle.filter_rules.specs.declared.rule.RuleKind.{RuleKind}
use Rattle.filter_rules.specs.declared.rule.RuleKind.TheVariants.{Port, Ip4, Ip6, Ether}
use Rattle.filter_rules.specs.declared.rule.RuleKey.{RuleKey}
use Rattle.filter_rules.specs.declared.rule.RuleRow.{RuleRow}

abbrev pub same_kind : RuleKind → RuleKind → Bool
same_kind Port Port = true
same_kind Ip4 Ip4 = true
same_kind Ip6 Ip6 = true
same_kind Ether Ether = true
same_kind _ _ = false

abbrev pub same_key : RuleKey → RuleKey → Bool
same_key a b = same_kind a.kind b.kind && (a.value == b.value)

-- all flags of the kind: a direction and a protocol for a port, a direction for an address
abbrev pub all_flags : RuleKind → ℕ
all_flags Port = 15
all_flags Ip4 = 3
all_flags Ip6 = 3
all_flags Ether = 3

-- the bits of the first number have one of the second's
abbrev pub has_one_of : ℕ → ℕ → Bool
has_one_of bits wanted = not (bit_and bits wanted == 0)

-- the row has the key and one of these flags
abbrev pub answers : RuleKey → ℕ → RuleRow → Bool
answers key flags row = same_key row.key key && has_one_of row.flags flags
