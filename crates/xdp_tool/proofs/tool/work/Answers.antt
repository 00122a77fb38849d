use Rattle.xdp_tool.proofs.Ordering.{front-begins}
use Rattle.xdp_tool.specs.Plan.{plan}
use Rattle.xdp_tool.proofs.tool.work.Goals as goal

pub returns-in-None-clause-ordered : goal.returns-in-None-clause-ordered
returns-in-None-clause-ordered g c = λ tells told.
    (0, front-begins c.args.performed.now.script.library (plan c.args.performed.now.script) _ _ _ (c.perform.ensures.out told).front, rw c.in-None.is tt)
