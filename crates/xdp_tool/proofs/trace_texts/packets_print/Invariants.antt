use Rattle.std.proofs.Common.{drop}
use Rattle.script_text.specs.Trace.{packets_trace}
use Rattle.xio.proofs.PrintLemmas.{HasPrinted}
use Rattle.xdp_tool.proofs.trace_texts.packets_print.Given as goal

-- the packets that are left
abbrev pub invariant-loop-place : goal.invariant-loop-place
invariant-loop-place g l =
    HasPrinted g.P.Printer.tells g.P.Printer.counts (g.P.Printer.state l.fn.printer) (g.P.Printer.state l.printer)
    (packets_trace l.processor 0 l.packets) (packets_trace l.processor l.place (drop l.place l.packets))
