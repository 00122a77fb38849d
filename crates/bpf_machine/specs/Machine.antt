-- What the machine's parts stand for.
use Rattle.std.specs.Prelude.{◌≡◌, ℕ, ℤ, pos, ◌+◌, ◌-◌, ◌/◌, ◌%◌, ◌+ℤ◌, nat_le, nat_lt, int_le, ◌&&◌, if◌then◌else◌, Bool, List, length, replicate, Option, Some, None, unsigned_abs}
use Rattle.bpf_insn.specs.declared.insn.Insn.{Insn}
use Rattle.bpf_insn.specs.declared.operation.Operation.{Operation}
use Rattle.bpf_insn.specs.Operation.{opcode_of}
use Rattle.flat_memory.specs.Numbers.{with_bytes}
use Rattle.flat_memory.specs.Memory.{Memory, masked, block, overlaid}
use Rattle.map_store.specs.Slots.{Map}
use Rattle.bpf_machine.specs.declared.environment.Env.{Env}
use Rattle.bpf_machine.specs.declared.flow.Flow.{Flow}
use Rattle.bpf_machine.specs.declared.flow.Flow.TheVariants as flow
use Rattle.bpf_machine.specs.declared.flow.Halt.{Halt}
use Rattle.bpf_machine.specs.declared.flow.Halt.TheVariants as halt
use Rattle.bpf_machine.specs.declared.scratch.Scratch.{Scratch}
use Rattle.bpf_machine.specs.Helpers.{Answer, answered}
use Rattle.bpf_machine.specs.Instruction.{act}
use Rattle.bpf_machine.specs.Next.{Next, Goes, Ends, Faults}
use Rattle.bpf_machine.specs.Run.{Ending, Ended, Faulted, Spent}
use Rattle.bpf_machine.specs.State.{State, Packet, packet_start, stack_start, frame_size}

-- the places of the frames up to the current one
abbrev pub stack_mask : ℕ → ℕ → Bool
stack_mask depth place = nat_lt (place % 0x1000) frame_size && nat_le (place / 0x1000) depth

unfoldable pub memory_of : ℕ → List ℕ → Packet → Memory
memory_of depth stack packet = overlaid (masked stack_start (stack_mask depth) stack) (block packet_start packet.buffer)

abbrev pub state_of : ℤ → Scratch → List Map → Packet → State
state_of next scratch maps packet = record {
  next = next;
  registers = scratch.registers;
  callers = scratch.callers.items;
  memory = memory_of (length scratch.callers.items) scratch.stack.items packet;
  maps = maps;
  data_start = packet_start + packet.data_start;
  data_end = packet_start + packet.data_end;
  buffer_end = packet_start + length packet.buffer;
  target = scratch.target;
}

-- the packet with its first byte, and with its end, moved, or none where that leaves the buffer or fewer than 14 bytes
unfoldable pub with_start : Packet → ℤ → Option Packet
with_start packet delta =
    let start = pos packet.data_start +ℤ delta in
    if int_le (pos 0) start && int_le (start +ℤ pos 14) (pos packet.data_end) then Some (record packet { data_start = unsigned_abs start }) else None

unfoldable pub with_end : Packet → ℤ → Option Packet
with_end packet delta =
    let end = pos packet.data_end +ℤ delta in
    if int_le (pos (packet.data_start + 14)) end && int_le end (pos (length packet.buffer))
    then
    Some (record packet {
      data_end = unsigned_abs end;
      buffer = with_bytes packet.buffer packet.data_end (replicate (unsigned_abs end - packet.data_end) 0);
    })
    else None

-- what a helper's answer stands for, in the state that it leaves
abbrev pub answer_in : State → Option ℕ → Option Answer
answer_in s None = None
answer_in s (Some value) = answered s value

-- what an instruction's outcome stands for, in a state that differs by its next slot
abbrev pub next_of : ℤ → Flow → (ℤ → State) → Next
next_of at (flow.Next next) state = Goes (state next)
next_of at flow.End state = Ends (state at)
next_of at flow.Fault state = Faults (state at)

-- The instruction of a slot leads from a state to this outcome, whatever operation has its opcode.
unfoldable pub IsCarriedOut : List Insn → Env → ℤ → Insn → State → Flow → (ℤ → State) → Type 0
IsCarriedOut code env at insn before flow after =
    (operation : Operation) → opcode_of operation ≡ insn.opcode → act code env before insn operation ≡ next_of at flow after

-- what a run's end stands for
abbrev pub ending_of : ℕ → Halt → State → Ending
ending_of budget (halt.Ended used) state = Ended state used
ending_of budget (halt.Faulted used) state = Faulted state used
ending_of budget halt.Spent state = Spent state budget
