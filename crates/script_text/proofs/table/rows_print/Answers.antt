use Rattle.std.proofs.Common.{arith}
use Rattle.xio.proofs.PrintLemmas.{printed_none, printed_more, printed_stop, printed_all}
use Rattle.script_text.proofs.TableLemmas.{rows_text-drop, rows_text-none}
use Rattle.script_text.proofs.table.rows_print.Goals as goal

pub loop-index-init : goal.loop-index-init
loop-index-init g c = printed_none _ _ _ _

pub loop-index-preserved : goal.loop-index-preserved
loop-index-preserved g c =
    printed_more _ _ c.loop-index.invariant (rows_text-drop c.args.tally.now.hits c.args.rules.now c.loop-index.index c.row-row.result c.row-row.ensures)
    (rw c.hits_of.ensures.row at c.in_ok-row_print.ensures)

pub returns-in_err-row_print : goal.returns-in_err-row_print
returns-in_err-row_print g c =
    printed_stop _ _ c.from_residual.result c.from_residual.ensures.0 c.loop-index.invariant
    (rows_text-drop c.args.tally.now.hits c.args.rules.now c.loop-index.index c.row-row.result c.row-row.ensures)
    (rw c.hits_of.ensures.row at c.in_err-row_print.ensures)

pub returns : goal.returns
returns g c = printed_all c.loop-index.invariant (rows_text-none c.args.tally.now.hits c.args.rules.now c.loop-index.index (omega (arith, c.len-index-end.ensures.value)))
