use Rattle.std.proofs.Common.{drop}
use Rattle.script_text.specs.Table.{filters_from}
use Rattle.xio.proofs.PrintLemmas.{HasPrinted}
use Rattle.script_text.proofs.table.filters_print.Given as goal

-- the interfaces that are left
abbrev pub invariant-loop-place : goal.invariant-loop-place
invariant-loop-place g l =
    HasPrinted g.P.Printer.tells g.P.Printer.counts (g.P.Printer.state l.fn.printer) (g.P.Printer.state l.printer)
    (filters_from l.state.members 0 l.interfaces) (filters_from l.state.members l.place (drop l.place l.interfaces))
