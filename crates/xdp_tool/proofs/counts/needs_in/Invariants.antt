use Rattle.std.proofs.Common.{◌≡◌, take, map}
use Rattle.xdp_state.specs.declared.packet.HandIn.{HandIn}
use Rattle.xdp_tool.proofs.counts.needs_in.Given as goal

abbrev pub invariant-loop-hand_in : goal.invariant-loop-hand_in
invariant-loop-hand_in l = l.needs ≡ map (λ (h : HandIn). h.need) (take l.hand_in-index l.hand_ins)
