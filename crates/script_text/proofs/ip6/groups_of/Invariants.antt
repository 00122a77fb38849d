use Rattle.std.proofs.Common.{◌≡◌, ◌-◌, ◌^◌, ◌<◌, ◌≤◌}
use Rattle.script_text.specs.Addresses.{groups_behind, groups_of}
use Rattle.script_text.specs.Words.{parts_of}
use Rattle.script_text.proofs.ip6.groups_of.Given as goal

-- the groups so far, with the parts that are left, are those of the text
abbrev pub invariant-loop-groups : goal.invariant-loop-groups
invariant-loop-groups l = record {
  groups : groups_of l.text ≡ groups_behind (record { count = l.groups.count; number = l.groups.number }) (parts_of 58 l.rest);
  few : l.groups.count ≤ 8;
  small : l.groups.number < 65536 ^ l.groups.count;
}

abbrev pub decreases-loop-groups : goal.decreases-loop-groups
decreases-loop-groups l = 8 - l.groups.count
