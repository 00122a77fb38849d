use Rattle.std.proofs.Common.{length}
use Rattle.xio.proofs.PrintLemmas.{prints_stop, prints_then}
use Rattle.pcapng_text.proofs.Framing.{stops_before_two}
use Rattle.pcapng_text.specs.Parts.{joined}
use Rattle.pcapng_text.specs.Written.{option_bytes, padding}
use Rattle.pcapng_text.proofs.option_print.option_print.Goals as goal

pub returns-in_err-head_print : goal.returns-in_err-head_print
unfolding option_bytes
returns-in_err-head_print g c =
    let value = joined c.args.value.now in
    stops_before_two value (padding (length value)) c.from_residual.result c.from_residual.ensures.0 (rw c.pieces_size-size.ensures at c.in_err-head_print.ensures)

pub returns-in_err-pieces_print : goal.returns-in_err-pieces_print
unfolding option_bytes
returns-in_err-pieces_print g c =
    prints_stop (padding (length (joined c.args.value.now))) c.from_residual-in_err-pieces_print.result c.from_residual-in_err-pieces_print.ensures.0
    (prints_then _ (rw c.pieces_size-size.ensures at c.in_ok-head_print.ensures) c.in_err-pieces_print.ensures)
