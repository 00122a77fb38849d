use Rattle.std.proofs.Common.{◌≡◌, take}
use Rattle.xdp_state.specs.Work.{all_needs}
use Rattle.xdp_tool.proofs.counts.needs_of.Given as goal

abbrev pub invariant-loop-packets : goal.invariant-loop-packets
invariant-loop-packets l = l.needs ≡ all_needs (take l.packets-index l.hand_ins)
