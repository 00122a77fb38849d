use Rattle.std.proofs.Common.{◌≡◌, ◌+◌, take, drop}
use Rattle.std.specs.Option.{option_map}
use Rattle.script_text.specs.Interfaces.{queue_count, processor_of}
use Rattle.script_text.proofs.interfaces.processor_of.Given as goal

-- the interface isn't among those so far
abbrev pub invariant-loop-interface : goal.invariant-loop-interface
invariant-loop-interface l = record {
  before : l.before ≡ queue_count (take l.interface-index l.interfaces);
  processor : processor_of l.interfaces l.name l.queue
      ≡ option_map (λ processor. l.before + processor) (processor_of (drop l.interface-index l.interfaces) l.name l.queue);
}
