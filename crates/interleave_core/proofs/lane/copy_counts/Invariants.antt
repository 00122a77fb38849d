use Rattle.std.proofs.Common.{◌≡◌, take}
use Rattle.interleave_core.proofs.lane.copy_counts.Given as goal

abbrev pub invariant-loop-count : goal.invariant-loop-count
invariant-loop-count l = l.copy ≡ take l.count-index l.counts
