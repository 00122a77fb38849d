use Rattle.std.proofs.Common.{length}
use Rattle.hex.specs.Hex.{encode_lower}
use Rattle.xio.proofs.PrintLemmas.{HasPrinted}
use Rattle.script_text.proofs.hexadecimal.print_digits.Given as goal

-- the bytes that are left
abbrev pub invariant-loop-rest : goal.invariant-loop-rest
invariant-loop-rest g l =
    HasPrinted g.P.Printer.tells g.P.Printer.counts (g.P.Printer.state l.fn.printer) (g.P.Printer.state l.printer)
    (encode_lower l.bytes) (encode_lower l.rest)

abbrev pub decreases-loop-rest : goal.decreases-loop-rest
decreases-loop-rest g l = length l.rest
