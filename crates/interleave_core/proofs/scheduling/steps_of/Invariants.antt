use Rattle.std.proofs.Common.{◌≡◌, ◌++◌, drop}
use Rattle.interleave_core.specs.Schedule.{plan_steps}
use Rattle.interleave_core.proofs.scheduling.steps_of.Given as goal

abbrev pub invariant-loop-phase : goal.invariant-loop-phase
invariant-loop-phase l = l.steps ++ plan_steps l.published (drop l.phase l.plan) (drop l.phase l.choices) ≡ plan_steps 0 l.plan l.choices
