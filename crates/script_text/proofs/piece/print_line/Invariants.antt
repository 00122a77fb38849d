use Rattle.std.proofs.Common.{drop}
use Rattle.script_text.specs.Pieces.{line_of}
use Rattle.xio.proofs.PrintLemmas.{HasPrinted}
use Rattle.script_text.proofs.piece.print_line.Given as goal

-- the pieces that are left
abbrev pub invariant-loop-piece : goal.invariant-loop-piece
invariant-loop-piece g l =
    HasPrinted g.P.Printer.tells g.P.Printer.counts (g.P.Printer.state l.fn.printer) (g.P.Printer.state l.printer)
    (line_of l.pieces) (line_of (drop l.piece-index l.pieces))
