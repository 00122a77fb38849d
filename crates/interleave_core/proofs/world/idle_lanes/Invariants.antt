use Rattle.std.proofs.Common.{◌≡◌, replicate}
use Rattle.interleave_core.specs.Traffic.{idle}
use Rattle.interleave_core.proofs.world.idle_lanes.Given as goal

abbrev pub invariant-loop : goal.invariant-loop
invariant-loop l = l.lanes.items ≡ replicate l.counter idle
