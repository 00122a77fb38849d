-- The queues of the code as the definitions have them.
use Rattle.xdp_tool.specs.Queues as specs
use Rattle.xdp_tool.specs.declared.queue.Queue.{Queue}

abbrev pub queue_of : Queue → specs.Queue
queue_of queue = record { interface = queue.interface; name = queue.name.now; queue = queue.queue }
