use Rattle.xio.proofs.PrintLemmas.{prints_stop, prints_then, lost_piece}
use Rattle.xio.proofs.sink_printer.write_behind.Goals as goal

pub returns-in_err-pass_on-clause-prints : goal.returns-in_err-pass_on-clause-prints
returns-in_err-pass_on-clause-prints g c =
    prints_stop c.args.piece.now c.from_residual.result c.from_residual.ensures.0 (rw c.if-put.ensures.unchanged at c.in_err-pass_on.ensures.prints)

pub returns-in-Err-clause-prints : goal.returns-in-Err-clause-prints
returns-in-Err-clause-prints g c =
    rw c.if-put-2.ensures.unchanged (prints_then _ (rw c.if-put.ensures.unchanged at c.in_ok-pass_on.ensures.prints)
    (lost_piece g.K.Sink.tells (g.K.Sink.held c.pass_on.new.sink) c.pass_on.new.buffer (g.K.Sink.held c.write_all.new.sink) c.args.piece.now c.in-Err.field-0.written _ _ _ _
    c.in_ok-pass_on.ensures.empty (λ told. c.in-Err.ensures.held told) c.in-Err.ensures.cause c.in-Err.ensures.same_setting))
