use Rattle.xio.proofs.PrintLemmas.{prints_stop}
use Rattle.dump_capture.specs.Capture.{packet_block}
use Rattle.dump_capture.specs.Point.{plain_of}
use Rattle.dump_capture.proofs.blocks.first_blocks_print.Goals as goal

pub returns-in_err-interface_block_print : goal.returns-in_err-interface_block_print
returns-in_err-interface_block_print g c =
    prints_stop (packet_block c.args.number (plain_of c.args.point.now)) c.from_residual.result c.from_residual.ensures.0 c.in_err-interface_block_print.ensures
