use Rattle.std.proofs.Common.{◌≡◌, drop, take}
use Rattle.interleave_core.specs.Legality.{illegal_in}
use Rattle.interleave_core.specs.Sound.{last_counts}
use Rattle.interleave_core.proofs.legality.broken_in.Given as goal

abbrev pub invariant-loop-processor : goal.invariant-loop-processor
invariant-loop-processor l =
    illegal_in l.phase 0 (last_counts (take l.phase l.choices)) l.asked.published l.asked.needs l.counts
    ≡ illegal_in l.phase l.processor (drop l.processor (last_counts (take l.phase l.choices))) l.asked.published (drop l.processor l.asked.needs) (drop l.processor l.counts)
