use Rattle.std.proofs.Common.{arith}
use Rattle.xio.proofs.PrintLemmas.{printed_none, printed_more, printed_stop, printed_all}
use Rattle.pcapng_text.proofs.Joining.{joined-drop, joined-none}
use Rattle.pcapng_text.proofs.pieces.pieces_print.Goals as goal

pub loop-piece-init : goal.loop-piece-init
loop-piece-init g c = printed_none _ _ _ _

pub loop-piece-preserved : goal.loop-piece-preserved
loop-piece-preserved g c =
    printed_more _ _ c.loop-piece.invariant (joined-drop c.args.pieces.now c.loop-piece.piece-index _ (omega arith)) c.in_ok-print.ensures

pub returns-in_err-print : goal.returns-in_err-print
returns-in_err-print g c =
    printed_stop _ _ c.from_residual.result c.from_residual.ensures.0 c.loop-piece.invariant
    (joined-drop c.args.pieces.now c.loop-piece.piece-index _ (omega arith)) c.in_err-print.ensures

pub returns : goal.returns
returns g c = printed_all c.loop-piece.invariant (joined-none c.args.pieces.now c.loop-piece.piece-index (omega arith))
