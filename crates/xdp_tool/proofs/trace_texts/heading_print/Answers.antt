use Rattle.std.proofs.Common.{◌∙◌}
use Rattle.xio.proofs.PrintLemmas.{prints_stop, prints_then}
use Rattle.xdp_tool.proofs.trace_texts.heading_print.Goals as goal

pub returns-in_err-print : goal.returns-in_err-print
returns-in_err-print g c = prints_stop _ c.from_residual.result c.from_residual.ensures.0 c.in_err-print.ensures

pub returns-in_err-print-2 : goal.returns-in_err-print-2
returns-in_err-print-2 g c =
    prints_then _ c.in_ok-print.ensures
    (prints_stop _ c.from_residual-in_err-print-2.result c.from_residual-in_err-print-2.ensures.0
    (rw (c.as_bytes.ensures.value ∙ c.format.ensures.text) at c.in_err-print-2.ensures))
