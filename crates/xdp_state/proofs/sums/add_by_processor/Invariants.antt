use Rattle.std.proofs.Common.{◌≡◌, List, map, take, vec_len}
use Rattle.xdp_state.specs.Sums.{Counted, joined, tally_of}
use Rattle.xdp_state.proofs.sums.add_by_processor.Given as goal

abbrev pub invariant-loop-processor : goal.invariant-loop-processor
invariant-loop-processor l = record {
  sums : (before : List (List Counted)) → l.initial.tallies.items ≡ map tally_of before → l.tallies.items ≡ map tally_of (joined before (take l.processor l.carried));
  processors : vec_len l.tallies ≡ vec_len l.initial.tallies;
}
