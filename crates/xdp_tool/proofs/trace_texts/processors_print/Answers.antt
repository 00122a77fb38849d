use Rattle.std.proofs.Common.{arith}
use Rattle.xio.proofs.PrintLemmas.{printed_all, printed_more, printed_none, printed_stop}
use Rattle.xdp_tool.proofs.Lines.{traces-front, traces-none}
use Rattle.xdp_tool.proofs.trace_texts.processors_print.Goals as goal

pub loop-processor-init : goal.loop-processor-init
loop-processor-init g c = printed_none _ _ _ _

pub loop-processor-preserved : goal.loop-processor-preserved
loop-processor-preserved g c =
    printed_more _ _ c.loop-processor.invariant (traces-front c.args.carried.now c.loop-processor.processor c.at.result.now c.at.ensures) c.in_ok-packets_print.ensures

pub returns-in_err-packets_print : goal.returns-in_err-packets_print
returns-in_err-packets_print g c =
    printed_stop _ _ c.from_residual.result c.from_residual.ensures.0 c.loop-processor.invariant
    (traces-front c.args.carried.now c.loop-processor.processor c.at.result.now c.at.ensures) c.in_err-packets_print.ensures

pub returns : goal.returns
returns g c =
    printed_all c.loop-processor.invariant (traces-none c.args.carried.now c.loop-processor.processor (omega (arith, c.loop-processor-test.false, c.len-processor-end.ensures)))
