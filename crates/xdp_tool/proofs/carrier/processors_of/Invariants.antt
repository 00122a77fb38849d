use Rattle.std.proofs.Common.{map, take}
use Rattle.xdp_tool.specs.Carrying.{AreIdle}
use Rattle.xdp_tool.specs.Traversed.{standings_of}
use Rattle.xdp_tool.specs.QueueView.{queue_of}
use Rattle.xdp_tool.proofs.carrier.processors_of.Given as goal

abbrev pub invariant-loop-number : goal.invariant-loop-number
invariant-loop-number l = AreIdle l.processors.items (standings_of (map queue_of (take l.number l.queues)))
