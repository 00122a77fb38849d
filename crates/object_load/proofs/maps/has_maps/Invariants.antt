use Rattle.std.proofs.Common.{◌≡◌, ℕ, ◌<◌, false}
use Rattle.object_load.specs.Maps.{holds_maps}
use Rattle.object_load.proofs.maps.has_maps.Given as goal

abbrev pub invariant-loop-number : goal.invariant-loop-number
invariant-loop-number l = (k : ℕ) → k < l.number → holds_maps l.object k ≡ false
