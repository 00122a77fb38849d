use Rattle.std.proofs.Common.{◌≡◌, drop}
use Rattle.interleave_core.specs.Legality.{lacking_from}
use Rattle.interleave_core.proofs.legality.lacking.Given as goal

abbrev pub invariant-loop-phase : goal.invariant-loop-phase
invariant-loop-phase l = lacking_from 0 l.plan l.choices ≡ lacking_from l.phase (drop l.phase l.plan) (drop l.phase l.choices)
