-- Which bytes may be read and written, and what a read and a write give.
use Rattle.std.specs.Prelude.{ℕ, ℤ, ◌+◌, ◌-◌, ◌%◌, ◌^◌, nat_le, ◌&&◌, ◌||◌, if◌then◌else◌, Bool, List, ◌++◌, length, take, drop, Option, Some, None}
use Rattle.std.specs.Int.{w64, cast_unsigned}
use Rattle.byteorder.specs.Endian.{little_bytes}
use Rattle.bpf_insn.specs.declared.operation.Size.{Size}
use Rattle.bpf_machine.specs.declared.environment.Env.{Env}
use Rattle.flat_memory.specs.Memory.{Memory, number_at, bytes_at, written, overlaid}
use Rattle.flat_memory.specs.Numbers.{size_of, number_in, stored}
use Rattle.map_store.specs.Values.{values, maps_written}
use Rattle.map_store.specs.Values as maps
use Rattle.bpf_machine.specs.Stack.{in_frames}
use Rattle.bpf_machine.specs.State.{State, Packet, packet_start, context_start}

-- a register plus an offset
abbrev pub address_of : ℕ → ℤ → ℕ
address_of base offset = (base + cast_unsigned w64 offset) % 2 ^ 64

-- The context: data, data_end, data_meta, ingress_ifindex, rx_queue_index and egress_ifindex, each of 32 bits
-- (`struct xdp_md` of the kernel).
unfoldable pub context_bytes : Env → ℕ → ℕ → List ℕ
context_bytes env data_start data_end =
    little_bytes 4 data_start ++ (little_bytes 4 data_end ++ (little_bytes 4 data_start
    ++ (little_bytes 4 env.ifindex ++ (little_bytes 4 env.queue ++ little_bytes 4 0))))

-- w bytes from an address on stand between two addresses
abbrev pub is_between : ℕ → ℕ → ℕ → ℕ → Bool
is_between a w from to = nat_le from a && nat_le (a + w) to

-- w bytes stand in the packet
abbrev pub in_packet : State → ℕ → ℕ → Bool
in_packet s a w = is_between a w s.data_start s.data_end

-- w bytes stand in one frame of the stack, the current one or one that leads to it
abbrev pub in_stack : State → ℕ → ℕ → Bool
in_stack s a w = in_frames (length s.callers) a w

abbrev pub in_context : ℕ → ℕ → Bool
in_context a w = is_between a w context_start (context_start + 24)

-- packet and stack may be read and written, values of maps as their kinds say, and the context may be read
unfoldable pub can_read : State → ℕ → ℕ → Bool
can_read s a w = in_packet s a w || (in_stack s a w || (maps.can_read s.maps a w || in_context a w))

-- what the program sees
abbrev pub seen : Env → State → Memory
seen env s = written (overlaid s.memory (values s.maps)) context_start (context_bytes env s.data_start s.data_end)

-- the number that a read gives, or none where it isn't allowed
unfoldable pub load_of : Env → State → ℕ → Size → Option ℕ
load_of env s a size = if can_read s a (size_of size) then Some (number_at (seen env s) a (size_of size)) else None

-- the n bytes from an address on, or none where they may not be read
unfoldable pub bytes_of : Env → State → ℕ → ℕ → Option (List ℕ)
bytes_of env s a n = if can_read s a n then Some (bytes_at (seen env s) a n) else None

-- the state after a write, or none where it isn't allowed
unfoldable pub store_of : State → ℕ → Size → ℕ → Option State
store_of s a size value =
    if in_packet s a (size_of size) || in_stack s a (size_of size) then Some (record s { memory = written s.memory a (stored size value) })
    else if maps.can_write s.maps a (size_of size) then Some (record s { maps = maps_written s.maps a (stored size value) })
    else None

-- the number of a size in the packet, and in the context
abbrev pub packet_load : Packet → ℕ → Size → Option ℕ
packet_load packet a size =
    if is_between a (size_of size) (packet_start + packet.data_start) (packet_start + packet.data_end)
    then Some (number_in packet.buffer (a - packet_start) (size_of size))
    else None

abbrev pub context_load : Env → ℕ → ℕ → ℕ → Size → Option ℕ
context_load env data_start data_end a size =
    if in_context a (size_of size) then Some (number_in (context_bytes env data_start data_end) (a - context_start) (size_of size)) else None

-- n bytes of the packet, and of the context, whose bytes these are
abbrev pub packet_bytes : Packet → ℕ → ℕ → Option (List ℕ)
packet_bytes packet a n =
    if is_between a n (packet_start + packet.data_start) (packet_start + packet.data_end) then Some (take n (drop (a - packet_start) packet.buffer)) else None

abbrev pub context_part : List ℕ → ℕ → ℕ → Option (List ℕ)
context_part context a n = if in_context a n then Some (take n (drop (a - context_start) context)) else None
