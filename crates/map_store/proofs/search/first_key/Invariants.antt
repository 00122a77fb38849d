use Rattle.std.proofs.Common.{◌≡◌, ◌-◌, ℕ, ◌<◌, false, length}
use Rattle.map_store.specs.Buckets.{IsIn, after}
use Rattle.map_store.specs.SlotsView.{has_key_at}
use Rattle.map_store.proofs.search.first_key.Given as goal

abbrev pub invariant-loop-slot : goal.invariant-loop-slot
invariant-loop-slot l = record {
  found : IsIn l.chains l.bucket l.before;
  none : (k : ℕ) → k < after l.before → has_key_at l.keys l.chains l.key k ≡ false;
}

abbrev pub decreases-loop-slot : goal.decreases-loop-slot
decreases-loop-slot l = length l.chains - after l.before
