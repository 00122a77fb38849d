use Rattle.std.proofs.Common.{◌≡◌, [], map, replicate}
use Rattle.xdp_state.specs.Sums.{tally_of}
use Rattle.xdp_state.proofs.sums.no_tallies.Given as goal

abbrev pub invariant-loop : goal.invariant-loop
invariant-loop l = l.tallies.items ≡ map tally_of (replicate l.counter [])
