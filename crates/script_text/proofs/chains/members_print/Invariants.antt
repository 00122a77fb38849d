use Rattle.std.proofs.Common.{drop}
use Rattle.script_text.specs.Chains.{members_text}
use Rattle.xio.proofs.PrintLemmas.{HasPrinted}
use Rattle.script_text.proofs.chains.members_print.Given as goal

-- the members that are left
abbrev pub invariant-loop-place : goal.invariant-loop-place
invariant-loop-place g l =
    HasPrinted g.P.Printer.tells g.P.Printer.counts (g.P.Printer.state l.fn.printer) (g.P.Printer.state l.printer)
    (members_text l.library l.chain) (members_text l.library (drop l.place l.chain))
