use Rattle.std.specs.Prelude.{pos}
use Rattle.std.specs.Prelude.{◌≡◌}
use Rattle.map_store.specs.Slots.{shapes}
use Rattle.bpf_machine.specs.Machine.{state_of}
use Rattle.bpf_machine.specs.Run.{Reaches}
use Rattle.bpf_machine.proofs.Runs.{IsSpentIn}
use Rattle.bpf_machine.proofs.running.run_for.Given as goal

abbrev pub invariant-loop-used : goal.invariant-loop-used
invariant-loop-used l = record {
  reached : Reaches l.code l.env (state_of (pos 0) l.fn.scratch l.fn.store l.fn.frame) l.used (state_of l.next l.scratch l.store l.frame);
  only : IsSpentIn l.code l.env (state_of (pos 0) l.fn.scratch l.fn.store l.fn.frame) l.used (state_of l.next l.scratch l.store l.frame);
  same : shapes l.store ≡ shapes l.fn.store;
}
