use Rattle.std.proofs.Common.{◌≡◌, ◌<◌, ◌++◌, map}
use Rattle.std.specs.Prelude.{All}
use Rattle.xdp_tool.specs.QueueView.{queue_of}
use Rattle.xdp_tool.specs.Queues.{queues_below}
use Rattle.xdp_tool.specs.declared.queue.Queue.{Queue}
use Rattle.xdp_tool.proofs.queue.add_queues.Given as goal

abbrev pub invariant-loop-queue : goal.invariant-loop-queue
invariant-loop-queue l = record {
  queues : map queue_of l.queues ≡ map queue_of l.initial.queues ++ queues_below l.queue l.number l.interface.name;
  interfaces : All (λ (q : Queue). q.interface < 8) l.initial.queues → All (λ (q : Queue). q.interface < 8) l.queues;
}
