use Rattle.xio.proofs.PrintLemmas.{prints_stop, prints_then}
use Rattle.script_text.specs.Chains.{member_line}
use Rattle.script_text.proofs.chains.member_print.Goals as goal

pub returns-in_err-print_line : goal.returns-in_err-print_line
unfolding member_line
returns-in_err-print_line g c =
    prints_stop _ c.from_residual.result c.from_residual.ensures.0 (rw (c.name_of.ensures, c.from.ensures, c.from-2.ensures) at c.in_err-print_line.ensures)

pub returns-in_err-mask_print : goal.returns-in_err-mask_print
unfolding member_line
returns-in_err-mask_print g c =
    prints_then _ (rw (c.name_of.ensures, c.from.ensures, c.from-2.ensures) at c.in_ok-print_line.ensures)
    (prints_stop _ c.from_residual-in_err-mask_print.result c.from_residual-in_err-mask_print.ensures.0 c.in_err-mask_print.ensures)
