use Rattle.xio.proofs.PrintLemmas.{prints_stop, prints_then}
use Rattle.script_text.specs.Table.{rules_text}
use Rattle.script_text.proofs.table.rules_print.Goals as goal

pub returns-in_err-filters_print : goal.returns-in_err-filters_print
unfolding rules_text
returns-in_err-filters_print g c =
    prints_stop _ c.from_residual.result c.from_residual.ensures.0 c.in_err-filters_print.ensures

pub returns-in_err-rows_print : goal.returns-in_err-rows_print
unfolding rules_text
returns-in_err-rows_print g c =
    prints_then _ c.in_ok-filters_print.ensures
    (prints_stop _ c.from_residual-in_err-rows_print.result c.from_residual-in_err-rows_print.ensures.0 (rw c.rules.ensures at c.in_err-rows_print.ensures))
