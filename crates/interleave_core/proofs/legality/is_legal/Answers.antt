use Rattle.interleave_core.proofs.Breaking.{err-legal, err-reached, ok-legal, ok-reached}
use Rattle.interleave_core.proofs.legality.is_legal.Goals as goal

pub returns-in-Some-clause-legal : goal.returns-in-Some-clause-legal
returns-in-Some-clause-legal c = err-legal c.args.plan.now c.args.choices.now c.in-Some.illegal c.in-Some.ensures

pub returns-in-Some-clause-reached : goal.returns-in-Some-clause-reached
returns-in-Some-clause-reached c = λ processors is. err-reached c.args.plan.now c.args.choices.now processors c.in-Some.illegal c.in-Some.ensures is

pub returns-in-None-clause-legal : goal.returns-in-None-clause-legal
returns-in-None-clause-legal c = ok-legal c.args.plan.now c.args.choices.now c.in-None.ensures

pub returns-in-None-clause-reached : goal.returns-in-None-clause-reached
returns-in-None-clause-reached c = λ processors is. ok-reached c.args.plan.now c.args.choices.now processors c.in-None.ensures is
