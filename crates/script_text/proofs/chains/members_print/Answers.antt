use Rattle.std.proofs.Common.{arith}
use Rattle.xio.proofs.PrintLemmas.{printed_none, printed_more, printed_stop, printed_all}
use Rattle.script_text.proofs.TableLemmas.{members_text-drop, members_text-none}
use Rattle.script_text.proofs.chains.members_print.Goals as goal

pub loop-place-init : goal.loop-place-init
loop-place-init g c = printed_none _ _ _ _

pub loop-place-preserved : goal.loop-place-preserved
loop-place-preserved g c =
    printed_more _ _ c.loop-place.invariant (members_text-drop c.args.library.now c.args.chain.now c.loop-place.place c.at.result.now c.at.ensures.member) c.in_ok-member_print.ensures

pub returns-in_err-member_print : goal.returns-in_err-member_print
returns-in_err-member_print g c =
    printed_stop _ _ c.from_residual.result c.from_residual.ensures.0 c.loop-place.invariant
    (members_text-drop c.args.library.now c.args.chain.now c.loop-place.place c.at.result.now c.at.ensures.member) c.in_err-member_print.ensures

pub returns : goal.returns
returns g c = printed_all c.loop-place.invariant (members_text-none c.args.library.now c.args.chain.now c.loop-place.place (omega (arith, c.len-place-end.ensures.value)))
