use Rattle.std.proofs.Common.{◌≡◌, take}
use Rattle.xdp_state.proofs.state.copy.copy_all.Given as goal

abbrev pub invariant-loop-hook : goal.invariant-loop-hook
invariant-loop-hook l = l.copies.items ≡ take l.hook-index l.hooks
