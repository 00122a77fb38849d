use Rattle.std.proofs.Common.{drop}
use Rattle.script_text.specs.Trace.{processors_trace}
use Rattle.xio.proofs.PrintLemmas.{HasPrinted}
use Rattle.xdp_tool.proofs.trace_texts.processors_print.Given as goal

-- the processors that are left
abbrev pub invariant-loop-processor : goal.invariant-loop-processor
invariant-loop-processor g l =
    HasPrinted g.P.Printer.tells g.P.Printer.counts (g.P.Printer.state l.fn.printer) (g.P.Printer.state l.printer)
    (processors_trace 0 l.carried) (processors_trace l.processor (drop l.processor l.carried))
