use Rattle.std.proofs.Common.{◌≡◌, drop}
use Rattle.interleave_core.specs.Legality.{lacking_in}
use Rattle.interleave_core.proofs.legality.lacking_in.Given as goal

abbrev pub invariant-loop-processor : goal.invariant-loop-processor
invariant-loop-processor l =
    lacking_in l.phase 0 l.needs l.counts ≡ lacking_in l.phase l.processor (drop l.processor l.needs) (drop l.processor l.counts)
