use Rattle.xio.proofs.PrintLemmas.{prints_stop}
use Rattle.script_text.specs.Chains.{interface_text}
use Rattle.script_text.proofs.chains.interface_print.Goals as goal

pub returns-in_err-mode_print : goal.returns-in_err-mode_print
unfolding interface_text
returns-in_err-mode_print g c =
    prints_stop _ c.from_residual.result c.from_residual.ensures.0 (rw c.mode.ensures at c.in_err-mode_print.ensures)
