use Rattle.std.proofs.Common.{◌≡◌, ◌+◌, ◌*◌, ◌<◌, ℕ, length, get_or, if◌then◌else◌}
use Rattle.map_store.proofs.occupancy.slot_numbers.Given as goal

abbrev pub invariant-loop-place : goal.invariant-loop-place
invariant-loop-place l = record {
  size : length l.least.items ≡ l.slots * 2;
  numbers : (place : ℕ) → place < l.place → get_or l.least.items (l.slots + place) 0 ≡ (if l.is_taken then l.slots else place);
}
