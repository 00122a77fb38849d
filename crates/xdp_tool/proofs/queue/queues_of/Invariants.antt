use Rattle.std.proofs.Common.{◌≡◌, ◌<◌, map, take}
use Rattle.std.specs.Prelude.{All}
use Rattle.xdp_tool.specs.QueueView.{queue_of}
use Rattle.xdp_tool.specs.Queues.{queues_from}
use Rattle.xdp_tool.specs.declared.queue.Queue.{Queue}
use Rattle.xdp_tool.proofs.queue.queues_of.Given as goal

abbrev pub invariant-loop-number : goal.invariant-loop-number
invariant-loop-number l = record {
  queues : map queue_of l.queues ≡ queues_from 0 (take l.number l.interfaces);
  interfaces : All (λ (q : Queue). q.interface < 8) l.queues;
}
