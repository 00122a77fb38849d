use Rattle.std.proofs.Common.{arith}
use Rattle.xio.proofs.PrintLemmas.{printed_all, printed_more, printed_none, printed_stop}
use Rattle.xdp_tool.proofs.Lines.{packets-front, packets-none}
use Rattle.xdp_tool.proofs.trace_texts.packets_print.Goals as goal

pub loop-place-init : goal.loop-place-init
loop-place-init g c = printed_none _ _ _ _

pub loop-place-preserved : goal.loop-place-preserved
loop-place-preserved g c =
    printed_more _ _ c.loop-place.invariant (packets-front c.args.processor c.args.packets.now c.loop-place.place c.at.result.now c.at.ensures) c.in_ok-packet_print.ensures

pub returns-in_err-packet_print : goal.returns-in_err-packet_print
returns-in_err-packet_print g c =
    printed_stop _ _ c.from_residual.result c.from_residual.ensures.0 c.loop-place.invariant
    (packets-front c.args.processor c.args.packets.now c.loop-place.place c.at.result.now c.at.ensures) c.in_err-packet_print.ensures

pub returns : goal.returns
returns g c =
    printed_all c.loop-place.invariant (packets-none c.args.processor c.args.packets.now c.loop-place.place (omega (arith, c.loop-place-test.false, c.len-place-end.ensures)))
