use Rattle.std.proofs.Common.{◌≡◌, map, take}
use Rattle.interleave_core.specs.Traffic.{Traffic}
use Rattle.interleave_core.proofs.world.counts_in.Given as goal

abbrev pub invariant-loop-lane : goal.invariant-loop-lane
invariant-loop-lane l = l.counts ≡ map (λ (t : Traffic). t.counts) (take l.lane-index l.lanes)
