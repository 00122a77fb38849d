use Rattle.xio.proofs.PrintLemmas.{prints_stop, prints_then}
use Rattle.script_text.specs.Table.{row_line}
use Rattle.script_text.proofs.table.row_print.Goals as goal

pub returns-in_err-print : goal.returns-in_err-print
unfolding row_line
returns-in_err-print g c =
    prints_stop _ c.from_residual.result c.from_residual.ensures.0 c.in_err-print.ensures

pub returns-in_err-key_print : goal.returns-in_err-key_print
unfolding row_line
returns-in_err-key_print g c =
    prints_then _ c.in_ok-print.ensures (prints_stop _ c.from_residual-in_err-key_print.result c.from_residual-in_err-key_print.ensures.0 c.in_err-key_print.ensures)

pub returns-in_err-print-2 : goal.returns-in_err-print-2
unfolding row_line
returns-in_err-print-2 g c =
    prints_then _ c.in_ok-print.ensures (prints_then _ c.in_ok-key_print.ensures (prints_stop _ c.from_residual-in_err-print-2.result c.from_residual-in_err-print-2.ensures.0 c.in_err-print-2.ensures))

pub returns-in_err-flags_print : goal.returns-in_err-flags_print
unfolding row_line
returns-in_err-flags_print g c =
    prints_then _ c.in_ok-print.ensures (prints_then _ c.in_ok-key_print.ensures (prints_then _ c.in_ok-print-2.ensures (prints_stop _ c.from_residual-in_err-flags_print.result c.from_residual-in_err-flags_print.ensures.0 c.in_err-flags_print.ensures)))
