use Rattle.std.proofs.Common.{◌-◌, ◌≤◌}
use Rattle.map_store.specs.Buckets.{IsIn, after}
use Rattle.map_store.proofs.chains.Chains.last_before.Given as goal

abbrev pub invariant-loop-slot : goal.invariant-loop-slot
invariant-loop-slot l = record {
  found : IsIn l.self l.bucket l.before;
  front : after l.before ≤ l.place;
}

abbrev pub decreases-loop-slot : goal.decreases-loop-slot
decreases-loop-slot l = l.place - after l.before
