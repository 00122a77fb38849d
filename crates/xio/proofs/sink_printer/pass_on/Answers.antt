use Rattle.xio.proofs.PrintLemmas.{lost_waiting}
use Rattle.xio.proofs.sink_printer.pass_on.Goals as goal

pub returns-in-Err-clause-prints : goal.returns-in-Err-clause-prints
returns-in-Err-clause-prints g c =
    lost_waiting g.K.Sink.tells (g.K.Sink.held c.args.sink.now) c.args.buffer.now (g.K.Sink.held c.write_all-written.new.sink) c.clear.new.self c.in-Err.field-0.written _ _ _ _
    (λ told. rw c.as_slice.ensures at (c.in-Err.ensures.held told)) c.clear.ensures c.in-Err.ensures.cause c.in-Err.ensures.same_setting
