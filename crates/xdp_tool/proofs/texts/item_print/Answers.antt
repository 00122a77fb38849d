use Rattle.xio.proofs.PrintLemmas.{prints_stop}
use Rattle.xdp_tool.proofs.texts.item_print.Goals as goal

pub returns-in_err-outcome_print : goal.returns-in_err-outcome_print
returns-in_err-outcome_print g c = λ past sums.
    prints_stop _ c.from_residual.result c.from_residual.ensures.0 c.in_err-outcome_print.ensures
