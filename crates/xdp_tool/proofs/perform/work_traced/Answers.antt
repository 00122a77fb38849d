use Rattle.std.proofs.Common.{refl, inl, inr}
use Rattle.xio.proofs.PrefixLemmas.{prefix_none, prefix_of_front}
use Rattle.xdp_tool.specs.Plan.{plan}
use Rattle.xdp_tool.proofs.Filling.{puts-begun, puts-joined}
use Rattle.xdp_tool.proofs.Ordering.{begun-ordered, unbegun-ordered}
use Rattle.xdp_tool.proofs.Running.{trace-split}
use Rattle.xdp_tool.proofs.perform.work_traced.Goals as goal

pub returns-in-Err-clause-out : goal.returns-in-Err-clause-out
returns-in-Err-clause-out g c = λ tells. prefix_none _ _

pub returns-in-Err-clause-trace : goal.returns-in-Err-clause-trace
returns-in-Err-clause-trace g c = λ tells.
    rw (trace-split c.args.traced c.args.performed.now.script.library (plan c.args.performed.now.script) c.args.choices.now)
    (prefix_of_front _ _ _ _ (c.in-Err.ensures.text tells))

pub returns-in-Err-clause-begun : goal.returns-in-Err-clause-begun
returns-in-Err-clause-begun g c = λ tells. inr (c.requires.none, λ told. refl)

pub returns-in-Err-clause-ordered : goal.returns-in-Err-clause-ordered
returns-in-Err-clause-ordered g c = λ told tells.
    unbegun-ordered c.args.traced c.args.performed.now.script.library (plan c.args.performed.now.script) c.args.choices.now _ _ _ (c.in-Err.ensures.text tells)

pub returns-in-Ok-clause-trace : goal.returns-in-Ok-clause-trace
returns-in-Ok-clause-trace g c = λ tells.
    puts-joined c.args.traced c.args.performed.now.script.library (plan c.args.performed.now.script) c.work.new.choices c.work.result _ _ _ (c.in-Ok.ensures.text tells) (c.work.ensures.trace tells)

pub returns-in-Ok-clause-begun : goal.returns-in-Ok-clause-begun
returns-in-Ok-clause-begun g c = λ tells.
    inl (puts-begun c.work.result _ _ _ _ _ (c.in-Ok.ensures.text tells) (c.work.ensures.trace tells))

pub returns-in-Ok-clause-ordered : goal.returns-in-Ok-clause-ordered
returns-in-Ok-clause-ordered g c = λ told tells.
    begun-ordered c.args.traced c.args.performed.now.script.library (plan c.args.performed.now.script) c.work.new.choices _ _ _ _ _ (c.in-Ok.ensures.text tells) (c.work.ensures.ordered told tells)
