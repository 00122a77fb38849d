use Rattle.std.proofs.Common.{◌≡◌, drop}
use Rattle.interleave_core.specs.Legality.{illegal_on}
use Rattle.interleave_core.proofs.legality.broken_after.Given as goal

abbrev pub invariant-loop-place : goal.invariant-loop-place
invariant-loop-place l =
    illegal_on l.phase l.processor 0 l.before l.published l.needs l.counts
    ≡ illegal_on l.phase l.processor l.place l.last l.published (drop l.place l.needs) (drop l.place l.counts)
