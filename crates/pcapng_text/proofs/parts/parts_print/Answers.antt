use Rattle.std.proofs.Common.{arith}
use Rattle.xio.proofs.PrintLemmas.{printed_none, printed_more, printed_stop, printed_all}
use Rattle.pcapng_text.proofs.Joining.{parts-drop, parts-none, short-at}
use Rattle.pcapng_text.proofs.parts.parts_print.Goals as goal

pub loop-part-init : goal.loop-part-init
loop-part-init g c = printed_none _ _ _ _

pub part_print-requires : goal.part_print-requires
part_print-requires g c = short-at c.args.parts.now c.loop-part.part-index _ (omega arith) c.requires

pub loop-part-preserved : goal.loop-part-preserved
loop-part-preserved g c =
    printed_more _ _ c.loop-part.invariant (parts-drop c.args.parts.now c.loop-part.part-index _ (omega arith)) c.in_ok-part_print.ensures

pub returns-in_err-part_print : goal.returns-in_err-part_print
returns-in_err-part_print g c =
    printed_stop _ _ c.from_residual.result c.from_residual.ensures.0 c.loop-part.invariant
    (parts-drop c.args.parts.now c.loop-part.part-index _ (omega arith)) c.in_err-part_print.ensures

pub returns : goal.returns
returns g c = printed_all c.loop-part.invariant (parts-none c.args.parts.now c.loop-part.part-index (omega arith))
