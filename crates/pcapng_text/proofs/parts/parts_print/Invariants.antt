use Rattle.std.proofs.Common.{drop}
use Rattle.xio.proofs.PrintLemmas.{HasPrinted}
use Rattle.pcapng_text.specs.Parts.{parts_bytes}
use Rattle.pcapng_text.proofs.parts.parts_print.Given as goal

-- the parts that are left
abbrev pub invariant-loop-part : goal.invariant-loop-part
invariant-loop-part g l =
    HasPrinted g.P.Printer.tells g.P.Printer.counts (g.P.Printer.state l.fn.printer) (g.P.Printer.state l.printer)
    (parts_bytes l.parts) (parts_bytes (drop l.part-index l.parts))
