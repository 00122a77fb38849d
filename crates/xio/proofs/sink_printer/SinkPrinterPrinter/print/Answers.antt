use Rattle.xio.proofs.PrintLemmas.{lent}
use Rattle.xio.proofs.sink_printer.SinkPrinterPrinter.print.Goals as goal

pub returns : goal.returns
returns g c = lent g.K.Sink.tells c.args.self.now.sink.ghost_name c.args.self.now.buffer.ghost_name _ _ _ _ _ _ _ _ _ _ _ c.write_behind.result
    c.write_behind.ensures.same_flushed c.write_behind.ensures.prints
