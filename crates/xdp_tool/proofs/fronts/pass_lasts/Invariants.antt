use Rattle.std.proofs.Common.{◌≡◌, take}
use Rattle.xdp_state.specs.Legal.{lasts_of}
use Rattle.xdp_tool.proofs.fronts.pass_lasts.Given as goal

abbrev pub invariant-loop-place : goal.invariant-loop-place
invariant-loop-place l = l.lasts ≡ lasts_of l.initial.lasts (take l.place l.counts)
