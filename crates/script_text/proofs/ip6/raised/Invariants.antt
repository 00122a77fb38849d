use Rattle.std.proofs.Common.{◌≡◌, ◌-◌, ◌*◌, ◌^◌, ◌<◌, ◌≤◌}
use Rattle.script_text.proofs.ip6.raised.Given as goal

abbrev pub invariant-loop-count : goal.invariant-loop-count
invariant-loop-count l = record {
  value : l.number ≡ l.groups.number * 65536 ^ (l.count - l.groups.count);
  small : l.number < 65536 ^ l.count;
  low : l.groups.count ≤ l.count;
  high : l.count ≤ 8;
}

abbrev pub decreases-loop-count : goal.decreases-loop-count
decreases-loop-count l = 8 - l.count
