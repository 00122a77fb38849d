use Rattle.std.proofs.Common.{◌≡◌, take}
use Rattle.script_text.specs.Interfaces.{queue_count}
use Rattle.script_text.proofs.interfaces.queue_count.Given as goal

abbrev pub invariant-loop-interface : goal.invariant-loop-interface
invariant-loop-interface l = l.count ≡ queue_count (take l.interface-index l.interfaces)
