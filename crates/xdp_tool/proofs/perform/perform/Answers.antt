use Rattle.std.proofs.Common.{refl, rules}
use Rattle.xdp_tool.proofs.Filling.{fills-ended, fills-stopped, fills-unflushed, performs-unflushed}
use Rattle.xdp_tool.specs.declared.perform.Stop.TheVariants.{Differs, Fault, OutOfMemory}
use Rattle.xdp_tool.proofs.perform.perform.Goals as goal

pub returns-in-Ok-settle-clause-out : goal.returns-in-Ok-settle-clause-out
returns-in-Ok-settle-clause-out g c = λ tells.
    fills-ended g.O.Sink.held g.O.Sink.flushed c.args.out.now c.work_traced-worked.new.out c.settle-settled.new.sink _ c.work_traced-worked.result c.settle-settled.result _ (search rules) (search rules) (c.work_traced-worked.ensures.out tells) (c.settle-settled.ensures.same tells) (c.settle-settled.ensures.flushed tells)

pub returns-in-Ok-settle-clause-trace : goal.returns-in-Ok-settle-clause-trace
returns-in-Ok-settle-clause-trace g c = λ tells.
    fills-ended g.T.Sink.held g.T.Sink.flushed c.args.trace.now c.work_traced-worked.new.trace c.settle.new.sink _ c.work_traced-worked.result c.settle.result _ (search rules) (search rules) (c.work_traced-worked.ensures.trace tells) (c.settle.ensures.same tells) (c.settle.ensures.flushed tells)

pub returns-in-Err-settle-clause-performed : goal.returns-in-Err-settle-clause-performed
returns-in-Err-settle-clause-performed g c =
    performs-unflushed c.args.performed.now c.work_traced-worked.new.choices c.work_traced-worked.result c.in-Ok.refused (search rules) c.work_traced-worked.ensures.performed

pub returns-in-Err-settle-clause-out : goal.returns-in-Err-settle-clause-out
returns-in-Err-settle-clause-out g c = λ tells.
    fills-unflushed g.O.Sink.held g.O.Sink.flushed c.args.out.now c.work_traced-worked.new.out c.settle-settled.new.sink _ c.work_traced-worked.result c.in-Ok.refused (search rules) (c.work_traced-worked.ensures.out tells) (c.settle-settled.ensures.same tells)

pub returns-in-Err-settle-clause-trace : goal.returns-in-Err-settle-clause-trace
returns-in-Err-settle-clause-trace g c = λ tells.
    fills-unflushed g.T.Sink.held g.T.Sink.flushed c.args.trace.now c.work_traced-worked.new.trace c.settle.new.sink _ c.work_traced-worked.result c.in-Ok.refused (search rules) (c.work_traced-worked.ensures.trace tells) (c.settle.ensures.same tells)

pub returns-in-Err-clause-performed : goal.returns-in-Err-clause-performed
returns-in-Err-clause-performed g c =
    performs-unflushed c.args.performed.now c.work_traced-worked.new.choices c.work_traced-worked.result c.in-Ok.refused (search rules) c.work_traced-worked.ensures.performed

pub returns-in-Err-clause-out : goal.returns-in-Err-clause-out
returns-in-Err-clause-out g c = λ tells.
    fills-unflushed g.O.Sink.held g.O.Sink.flushed c.args.out.now c.work_traced-worked.new.out c.settle-settled.new.sink _ c.work_traced-worked.result c.in-Ok.refused (search rules) (c.work_traced-worked.ensures.out tells) (c.settle-settled.ensures.same tells)

pub returns-in-Err-clause-trace : goal.returns-in-Err-clause-trace
returns-in-Err-clause-trace g c = λ tells.
    fills-unflushed g.T.Sink.held g.T.Sink.flushed c.args.trace.now c.work_traced-worked.new.trace c.work_traced-worked.new.trace _ c.work_traced-worked.result c.in-Ok.refused (search rules) (c.work_traced-worked.ensures.trace tells) refl

pub returns-in-Err-Fault-clause-out : goal.returns-in-Err-Fault-clause-out
returns-in-Err-Fault-clause-out g c = λ tells.
    fills-stopped g.O.Sink.held g.O.Sink.flushed c.args.out.now c.work_traced-worked.new.out c.settle-settled.new.sink _ c.work_traced-worked.result Fault (search rules) (c.work_traced-worked.ensures.out tells) (c.settle-settled.ensures.same tells)

pub returns-in-Err-Fault-clause-trace : goal.returns-in-Err-Fault-clause-trace
returns-in-Err-Fault-clause-trace g c = λ tells.
    fills-stopped g.T.Sink.held g.T.Sink.flushed c.args.trace.now c.work_traced-worked.new.trace c.work_traced-worked.new.trace _ c.work_traced-worked.result Fault (search rules) (c.work_traced-worked.ensures.trace tells) refl

pub returns-in-Err-OutOfMemory-clause-out : goal.returns-in-Err-OutOfMemory-clause-out
returns-in-Err-OutOfMemory-clause-out g c = λ tells.
    fills-stopped g.O.Sink.held g.O.Sink.flushed c.args.out.now c.work_traced-worked.new.out c.settle-settled.new.sink _ c.work_traced-worked.result OutOfMemory (search rules) (c.work_traced-worked.ensures.out tells) (c.settle-settled.ensures.same tells)

pub returns-in-Err-OutOfMemory-clause-trace : goal.returns-in-Err-OutOfMemory-clause-trace
returns-in-Err-OutOfMemory-clause-trace g c = λ tells.
    fills-stopped g.T.Sink.held g.T.Sink.flushed c.args.trace.now c.work_traced-worked.new.trace c.work_traced-worked.new.trace _ c.work_traced-worked.result OutOfMemory (search rules) (c.work_traced-worked.ensures.trace tells) refl

pub returns-in-Err-Differs-clause-out : goal.returns-in-Err-Differs-clause-out
returns-in-Err-Differs-clause-out g c = λ tells.
    fills-stopped g.O.Sink.held g.O.Sink.flushed c.args.out.now c.work_traced-worked.new.out c.settle-settled.new.sink _ c.work_traced-worked.result (Differs c.in-Err-Differs.line) (search rules) (c.work_traced-worked.ensures.out tells) (c.settle-settled.ensures.same tells)

pub returns-in-Err-Differs-clause-trace : goal.returns-in-Err-Differs-clause-trace
returns-in-Err-Differs-clause-trace g c = λ tells.
    fills-stopped g.T.Sink.held g.T.Sink.flushed c.args.trace.now c.work_traced-worked.new.trace c.settle-in-Err-Differs.new.sink _ c.work_traced-worked.result (Differs c.in-Err-Differs.line) (search rules) (c.work_traced-worked.ensures.trace tells) (c.settle-in-Err-Differs.ensures.same tells)
