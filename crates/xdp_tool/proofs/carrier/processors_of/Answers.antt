use Rattle.std.proofs.Common.{arith}
use Rattle.xdp_tool.proofs.Due.{idle-more}
use Rattle.xdp_tool.proofs.carrier.processors_of.Goals as goal

pub loop-number-preserved : goal.loop-number-preserved
loop-number-preserved c =
    idle-more c.args.queues.now c.loop-number.number _ c.loop-number.processors.items c.push.new.self.items c.in_ok-new.field-0 (omega arith) c.in_ok-new.ensures.standing c.in_ok-new.ensures.idle c.in_ok-push.ensures.items c.loop-number.invariant
