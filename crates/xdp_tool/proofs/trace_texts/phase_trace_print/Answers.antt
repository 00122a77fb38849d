use Rattle.std.proofs.Common.{◌++◌}
use Rattle.xio.proofs.PrintLemmas.{prints_stop, prints_then}
use Rattle.script_text.specs.Trace.{heading, processors_trace}
use Rattle.xdp_tool.specs.Trace.{end_mark}
use Rattle.xdp_tool.proofs.trace_texts.phase_trace_print.Goals as goal

pub returns-in_err-heading_print : goal.returns-in_err-heading_print
returns-in_err-heading_print g c =
    prints_stop {t = heading c.args.closed.now.number} (processors_trace 0 c.args.closed.now.carried ++ end_mark c.args.closed.now.barrier)
    c.from_residual.result c.from_residual.ensures.0 c.in_err-heading_print.ensures

pub returns-in_err-processors_print : goal.returns-in_err-processors_print
returns-in_err-processors_print g c =
    prints_then {t = heading c.args.closed.now.number} _ c.in_ok-heading_print.ensures
    (prints_stop (end_mark c.args.closed.now.barrier) c.from_residual-in_err-processors_print.result c.from_residual-in_err-processors_print.ensures.0 c.in_err-processors_print.ensures)
