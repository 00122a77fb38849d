use Rattle.std.proofs.Common.{◌≡◌, map, take}
use Rattle.xdp_state.specs.Work.{needs_of}
use Rattle.interleave_core.specs.Traffic.{Traffic}
use Rattle.interleave_core.proofs.world.needs_in.Given as goal

abbrev pub invariant-loop-lane : goal.invariant-loop-lane
invariant-loop-lane l = l.needs ≡ map (λ (t : Traffic). needs_of t.handed) (take l.lane-index l.lanes)
