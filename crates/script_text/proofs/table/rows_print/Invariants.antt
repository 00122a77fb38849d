use Rattle.std.proofs.Common.{drop}
use Rattle.script_text.specs.Table.{rows_text}
use Rattle.xio.proofs.PrintLemmas.{HasPrinted}
use Rattle.script_text.proofs.table.rows_print.Given as goal

-- the rows that are left
abbrev pub invariant-loop-index : goal.invariant-loop-index
invariant-loop-index g l =
    HasPrinted g.P.Printer.tells g.P.Printer.counts (g.P.Printer.state l.fn.printer) (g.P.Printer.state l.printer)
    (rows_text l.tally.hits l.rules) (rows_text l.tally.hits (drop l.index l.rules))
