use Rattle.xio.proofs.PrintLemmas.{prints_stop}
use Rattle.pcapng_text.specs.Written.{u16_bytes}
use Rattle.pcapng_text.proofs.option_print.head_print.Goals as goal

pub returns-in_err-print : goal.returns-in_err-print
returns-in_err-print g c =
    prints_stop (u16_bytes c.args.size) c.from_residual.result c.from_residual.ensures.0 (rw c.to_le_bytes.ensures at c.in_err-print.ensures)
