use Rattle.std.proofs.Common.{◌≡◌, [], replicate}
use Rattle.xdp_tool.proofs.walk.no_hand_ins.Given as goal

abbrev pub invariant-loop : goal.invariant-loop
invariant-loop l = l.lists.items ≡ replicate l.counter []
