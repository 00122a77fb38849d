use Rattle.std.proofs.Common.{◌≡◌, take}
use Rattle.xdp_state.specs.Work.{needs_of}
use Rattle.interleave_core.proofs.lane.copy_needs.Given as goal

abbrev pub invariant-loop-hand_in : goal.invariant-loop-hand_in
invariant-loop-hand_in l = l.needs ≡ needs_of (take l.hand_in-index l.hand_ins)
