use Rattle.xio.proofs.PrintLemmas.{prints_stop}
use Rattle.script_text.proofs.piece.print_further.Goals as goal

pub returns-in_err-print : goal.returns-in_err-print
returns-in_err-print g c =
    prints_stop c.args.name.now c.from_residual.result c.from_residual.ensures.0 c.in_err-print.ensures
