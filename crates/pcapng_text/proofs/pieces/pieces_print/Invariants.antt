use Rattle.std.proofs.Common.{drop}
use Rattle.xio.proofs.PrintLemmas.{HasPrinted}
use Rattle.pcapng_text.specs.Parts.{joined}
use Rattle.pcapng_text.proofs.pieces.pieces_print.Given as goal

-- the pieces that are left
abbrev pub invariant-loop-piece : goal.invariant-loop-piece
invariant-loop-piece g l =
    HasPrinted g.P.Printer.tells g.P.Printer.counts (g.P.Printer.state l.fn.printer) (g.P.Printer.state l.printer)
    (joined l.pieces) (joined (drop l.piece-index l.pieces))
