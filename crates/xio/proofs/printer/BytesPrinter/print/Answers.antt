use Rattle.xio.proofs.PrintLemmas.{appended}
use Rattle.xio.proofs.printer.BytesPrinter.print.Goals as goal

pub returns : goal.returns
returns c = appended c.args.self.now c.append.new.self c.args.piece.now tt c.append.result c.append.ensures.ok c.append.ensures.err
