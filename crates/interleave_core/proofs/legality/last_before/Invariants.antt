use Rattle.std.proofs.Common.{◌≡◌, ◌≤◌, get_or, take}
use Rattle.interleave_core.specs.Sound.{last_counts}
use Rattle.interleave_core.proofs.legality.last_before.Given as goal

abbrev pub invariant-loop-earlier : goal.invariant-loop-earlier
invariant-loop-earlier l = record {
  within : l.earlier ≤ l.phase;
  same : get_or (last_counts (take l.phase l.choices)) l.processor 0 ≡ get_or (last_counts (take l.earlier l.choices)) l.processor 0;
}

abbrev pub decreases-loop-earlier : goal.decreases-loop-earlier
decreases-loop-earlier l = l.earlier
