use Rattle.xio.proofs.PrintLemmas.{prints_stop, prints_then}
use Rattle.script_text.specs.Table.{filter_line}
use Rattle.script_text.proofs.table.filter_print.Goals as goal

pub returns-in_err-print_line : goal.returns-in_err-print_line
unfolding filter_line
returns-in_err-print_line g c =
    prints_stop _ c.from_residual.result c.from_residual.ensures.0 (rw c.policy_name.ensures.value at c.in_err-print_line.ensures)

pub returns-in_err-list_print : goal.returns-in_err-list_print
unfolding filter_line
returns-in_err-list_print g c =
    prints_then _ (rw c.policy_name.ensures.value at c.in_ok-print_line.ensures)
    (prints_stop _ c.from_residual-in_err-list_print.result c.from_residual-in_err-list_print.ensures.0 c.in_err-list_print.ensures)
