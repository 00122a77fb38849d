use Rattle.std.proofs.Common.{◌≡◌, [], drop, take}
use Rattle.interleave_core.specs.Legality.{illegal_from}
use Rattle.interleave_core.specs.Sound.{last_counts}
use Rattle.interleave_core.proofs.legality.first_broken.Given as goal

abbrev pub invariant-loop-phase : goal.invariant-loop-phase
invariant-loop-phase l =
    illegal_from 0 [] l.plan l.choices
    ≡ illegal_from l.phase (last_counts (take l.phase l.choices)) (drop l.phase l.plan) (drop l.phase l.choices)
