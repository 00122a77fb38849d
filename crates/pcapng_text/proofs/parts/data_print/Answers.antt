use Rattle.std.proofs.Common.{length}
use Rattle.xio.proofs.PrintLemmas.{prints_stop}
use Rattle.pcapng_text.specs.Written.{padding}
use Rattle.pcapng_text.proofs.parts.data_print.Goals as goal

pub returns-in_err-print : goal.returns-in_err-print
returns-in_err-print g c =
    prints_stop (padding (length c.args.bytes.now)) c.from_residual.result c.from_residual.ensures.0 c.in_err-print.ensures
