use Rattle.std.proofs.Common.{sym, subst}
use Rattle.interleave_core.proofs.Breaking.{ok-past}
use Rattle.interleave_core.proofs.Giving.{steps-give}
use Rattle.interleave_core.specs.Reached.{StepsGive}
use Rattle.interleave_core.proofs.scheduling.schedule.Goals as goal

pub returns-clause-steps : goal.returns-clause-steps
returns-clause-steps c = λ processors is.
    subst (λ steps. StepsGive processors steps c.args.plan.now c.args.choices.now) (sym c.in_ok-steps.ensures)
    (steps-give processors c.args.plan.now c.args.choices.now is (c.is_legal.ensures.legal.0 (ok-past c.is_legal.result c.in_default.not-Err)))
