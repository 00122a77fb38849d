-- The machine's state, and its regions of memory.
use Rattle.std.specs.Prelude.{◌≤◌, ℕ, ℤ, pos, ◌+◌, ◌*◌, List, [], ◌∷◌, length, replicate}
use Rattle.bpf_machine.specs.declared.scratch.Caller.{Caller}
use Rattle.flat_memory.specs.Memory.{Memory, block, written}
use Rattle.map_store.specs.Slots.{Map}

-- where the regions begin
abbrev pub packet_start : ℕ
packet_start = 0x10000000

abbrev pub stack_start : ℕ
stack_start = 0x20000000

abbrev pub context_start : ℕ
context_start = 0x30000000

-- The next instruction's slot, r0 to r10, the functions that wait for a callee, the innermost last, the bytes of the
-- packet and of the stack, the maps, the packet's ends and the end of its buffer, and where a redirect goes.
pub record State : Type 0 where
  pub next : ℤ
  pub registers : List ℕ
  pub callers : List Caller
  pub memory : Memory
  pub maps : List Map
  pub data_start : ℕ
  pub data_end : ℕ
  pub buffer_end : ℕ
  pub target : ℕ

-- a packet in its buffer, and the places of its first byte and of its end
pub record Packet : Type 0 where
  pub buffer : List ℕ
  pub data_start : ℕ
  pub data_end : ℕ

-- a packet has 14 bytes, and lies in its buffer, which is no larger than a frame may be
pub record IsPacket (packet : Packet) : Type 0 where
  pub least : packet.data_start + 14 ≤ packet.data_end
  pub inside : packet.data_end ≤ length packet.buffer
  pub small : length packet.buffer ≤ 0x4000

-- frame k of the stack
abbrev pub frame_size : ℕ
frame_size = 512

abbrev pub frame_start : ℕ → ℕ
frame_start k = stack_start + 0x1000 * k

-- what a frame of the stack holds as it is entered
unfoldable pub empty_frame : List ℕ
empty_frame = replicate 512 0

-- r1 is the context's address and r10 the top of the first frame
unfoldable pub start_registers : List ℕ
start_registers = 0 ∷ context_start ∷ 0 ∷ 0 ∷ 0 ∷ 0 ∷ 0 ∷ 0 ∷ 0 ∷ 0 ∷ (frame_start 0 + frame_size) ∷ []

unfoldable pub start : List Map → Packet → State
start maps packet = record {
  next = pos 0;
  registers = start_registers;
  callers = [];
  memory = written (block packet_start packet.buffer) (frame_start 0) empty_frame;
  maps = maps;
  data_start = packet_start + packet.data_start;
  data_end = packet_start + packet.data_end;
  buffer_end = packet_start + length packet.buffer;
  target = 0;
}
