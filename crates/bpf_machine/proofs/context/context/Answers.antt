use Rattle.std.proofs.Common.{refl}
use Rattle.bpf_machine.specs.Access.{context_bytes}
use Rattle.bpf_machine.proofs.context.context.Goals as goal

pub returns : goal.returns
unfolding context_bytes
returns c = rw (c.to_le_bytes-start.ensures, c.to_le_bytes-end.ensures, c.to_le_bytes-ifindex.ensures, c.to_le_bytes-queue.ensures) refl
