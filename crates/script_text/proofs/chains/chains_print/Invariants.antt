use Rattle.std.proofs.Common.{drop}
use Rattle.script_text.specs.Chains.{chains_from}
use Rattle.xio.proofs.PrintLemmas.{HasPrinted}
use Rattle.script_text.proofs.chains.chains_print.Given as goal

-- the interfaces that are left
abbrev pub invariant-loop-place : goal.invariant-loop-place
invariant-loop-place g l =
    HasPrinted g.P.Printer.tells g.P.Printer.counts (g.P.Printer.state l.fn.printer) (g.P.Printer.state l.printer)
    (chains_from l.library l.state 0 l.library.interfaces) (chains_from l.library l.state l.place (drop l.place l.library.interfaces))
