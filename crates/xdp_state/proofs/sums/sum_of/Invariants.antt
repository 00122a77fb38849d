use Rattle.std.proofs.Common.{◌≡◌, take}
use Rattle.xdp_state.specs.Sums.{packets_of, tally_of}
use Rattle.xdp_state.proofs.sums.sum_of.Given as goal

abbrev pub invariant-loop-packets : goal.invariant-loop-packets
invariant-loop-packets l = l.tally ≡ tally_of (packets_of (take l.packets-index l.carried))
