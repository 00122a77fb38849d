use Rattle.interleave_core.proofs.Pushing.{plan_steps-next}
use Rattle.interleave_core.specs.Schedule.{plan_steps}
use Rattle.interleave_core.proofs.scheduling.steps_of.Goals as goal

pub loop-phase-preserved : goal.loop-phase-preserved
loop-phase-preserved c =
    plan_steps-next c.loop-phase.published c.loop-phase.phase c.args.plan.now c.args.choices.now c.at-asked.result.now c.at-counts.result.now c.loop-phase.steps c.add_phase.new.steps (plan_steps 0 c.args.plan.now c.args.choices.now)
    c.at-asked.ensures c.at-counts.ensures c.loop-phase.invariant c.in_ok-add_phase.ensures
