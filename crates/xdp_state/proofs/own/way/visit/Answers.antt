use Rattle.std.proofs.Common.{refl}
use Rattle.xdp_state.specs.Traversal.{made}
use Rattle.xdp_state.proofs.own.way.visit.Goals as goal

pub visit_program-requires-clause-ready : goal.visit_program-requires-clause-ready
visit_program-requires-clause-ready c = rw c.in-Program.is at c.requires.ready

pub returns-in-Program-clause-made : goal.returns-in-Program-clause-made
unfolding made
returns-in-Program-clause-made c = λ dump. rw c.in-Program.is (c.visit_program.ensures.made c.args.rules.now dump)

pub returns-in-Filter-clause-made : goal.returns-in-Filter-clause-made
unfolding made
returns-in-Filter-clause-made c = λ dump. rw (c.in-Filter.is, c.visit_filter.ensures, c.bytes.ensures.bytes) refl

pub returns-in-Filter-clause-ready : goal.returns-in-Filter-clause-ready
returns-in-Filter-clause-ready c = λ chain ready. ready
