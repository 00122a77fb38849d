use Rattle.xio.proofs.PrintLemmas.{prints_stop}
use Rattle.script_text.specs.Texts.{processor_line}
use Rattle.script_text.proofs.processor.processor_print.Goals as goal

pub returns-in_err-totals_print : goal.returns-in_err-totals_print
unfolding processor_line
returns-in_err-totals_print g c =
    prints_stop _ c.from_residual.result c.from_residual.ensures.0 c.in_err-totals_print.ensures
