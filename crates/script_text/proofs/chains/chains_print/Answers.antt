use Rattle.std.proofs.Common.{arith}
use Rattle.xio.proofs.PrintLemmas.{printed_none, printed_more, printed_stop, printed_all}
use Rattle.script_text.specs.Chains.{chains_text}
use Rattle.script_text.proofs.TableLemmas.{chains_from-drop, chains_from-none}
use Rattle.script_text.proofs.chains.chains_print.Goals as goal

pub loop-place-init : goal.loop-place-init
loop-place-init g c = printed_none _ _ _ _

pub loop-place-preserved : goal.loop-place-preserved
loop-place-preserved g c =
    printed_more _ _ c.loop-place.invariant
    (chains_from-drop c.args.library.now c.args.state.now c.loop-place.place c.at-interface.result.now c.at-interface.ensures)
    (rw c.as_slice.ensures at c.in_ok-interface_print.ensures)

pub returns-in_err-interface_print : goal.returns-in_err-interface_print
unfolding chains_text
returns-in_err-interface_print g c =
    printed_stop _ _ c.from_residual.result c.from_residual.ensures.0 c.loop-place.invariant
    (chains_from-drop c.args.library.now c.args.state.now c.loop-place.place c.at-interface.result.now c.at-interface.ensures)
    (rw c.as_slice.ensures at c.in_err-interface_print.ensures)

pub returns : goal.returns
unfolding chains_text
returns g c =
    printed_all c.loop-place.invariant (chains_from-none c.args.library.now c.args.state.now c.loop-place.place (omega (arith, c.len-place-end.ensures)))
