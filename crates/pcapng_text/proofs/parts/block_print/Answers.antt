use Rattle.std.proofs.Common.{◌+◌, ◌++◌, length}
use Rattle.xio.proofs.PrintLemmas.{prints_stop, prints_then}
use Rattle.pcapng_text.proofs.Framing.{stops_before_two}
use Rattle.pcapng_text.specs.Parts.{framed, parts_bytes}
use Rattle.pcapng_text.specs.Written.{u32_bytes}
use Rattle.pcapng_text.proofs.parts.block_print.Goals as goal

pub returns-in_err-parts_print : goal.returns-in_err-parts_print
unfolding framed
returns-in_err-parts_print g c =
    let body = parts_bytes c.args.parts.now in
    stops_before_two {t = u32_bytes c.args.kind ++ u32_bytes (12 + length body)} body (u32_bytes (12 + length body)) c.from_residual.result c.from_residual.ensures.0 (rw c.parts_size.ensures at c.in_err-parts_print.ensures)

pub returns-in_err-parts_print-2 : goal.returns-in_err-parts_print-2
unfolding framed
returns-in_err-parts_print-2 g c =
    prints_stop (u32_bytes (12 + length (parts_bytes c.args.parts.now))) c.from_residual-in_err-parts_print-2.result c.from_residual-in_err-parts_print-2.ensures.0
    (prints_then _ (rw c.parts_size.ensures at c.in_ok-parts_print.ensures) c.in_err-parts_print-2.ensures)
