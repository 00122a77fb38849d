use Rattle.xio.proofs.PrintLemmas.{prints_stop, prints_then}
use Rattle.script_text.specs.Table.{verdicts_text}
use Rattle.script_text.proofs.table.verdicts_print.Goals as goal

pub returns-in_err-verdict_print : goal.returns-in_err-verdict_print
unfolding verdicts_text
returns-in_err-verdict_print g c =
    prints_stop _ c.from_residual.result c.from_residual.ensures.0 c.in_err-verdict_print.ensures

pub returns-in_err-verdict_print-2 : goal.returns-in_err-verdict_print-2
unfolding verdicts_text
returns-in_err-verdict_print-2 g c =
    prints_then _ c.in_ok-verdict_print.ensures (prints_stop _ c.from_residual-in_err-verdict_print-2.result c.from_residual-in_err-verdict_print-2.ensures.0 c.in_err-verdict_print-2.ensures)

pub returns-in_err-verdict_print-3 : goal.returns-in_err-verdict_print-3
unfolding verdicts_text
returns-in_err-verdict_print-3 g c =
    prints_then _ c.in_ok-verdict_print.ensures (prints_then _ c.in_ok-verdict_print-2.ensures (prints_stop _ c.from_residual-in_err-verdict_print-3.result c.from_residual-in_err-verdict_print-3.ensures.0 c.in_err-verdict_print-3.ensures))

pub returns-in_err-verdict_print-4 : goal.returns-in_err-verdict_print-4
unfolding verdicts_text
returns-in_err-verdict_print-4 g c =
    prints_then _ c.in_ok-verdict_print.ensures (prints_then _ c.in_ok-verdict_print-2.ensures (prints_then _ c.in_ok-verdict_print-3.ensures (prints_stop _ c.from_residual-in_err-verdict_print-4.result c.from_residual-in_err-verdict_print-4.ensures.0 c.in_err-verdict_print-4.ensures)))

pub returns : goal.returns
unfolding verdicts_text
returns g c =
    prints_then _ c.in_ok-verdict_print.ensures (prints_then _ c.in_ok-verdict_print-2.ensures (prints_then _ c.in_ok-verdict_print-3.ensures (prints_then _ c.in_ok-verdict_print-4.ensures c.verdict_print-5.ensures)))
