-- What a read gives and a write makes, of a state by its parts.
use Rattle.std.proofs.Common.{◌≡◌, ℕ, ◌+◌, ◌-◌, ◌<◌, ◌≤◌, List, length, take, drop, Bool, true, false, inl, inr, Some, None, refl, sym, arith}
use Rattle.std.specs.Prelude.{ℤ, if◌then◌else◌}
use Rattle.std.specs.Option.{option_or}
use Rattle.std.proofs.lemmas.Bool.{cases_Bool}
use Rattle.std.proofs.lemmas.Bool.Decides.{nat_tests}
use Rattle.flat_memory.specs.Memory.{written, number_at, bytes_at}
use Rattle.flat_memory.specs.Numbers.{number_in, with_bytes, stored, size_of}
use Rattle.flat_memory.proofs.Bytes.{length-stored, length-with_bytes}
use Rattle.bpf_insn.specs.declared.operation.Size.{Size}
use Rattle.map_store.specs.Slots.{Map}
use Rattle.map_store.specs.Values.{maps_written}
use Rattle.map_store.specs.Values as values
use Rattle.bpf_machine.specs.declared.environment.Env.{Env}
use Rattle.bpf_machine.specs.declared.scratch.Caller.{Caller}
use Rattle.bpf_machine.specs.Access.{load_of, bytes_of, store_of, can_read, is_between, in_context, packet_load, context_load, context_bytes, packet_bytes, context_part}
use Rattle.bpf_machine.specs.Machine.{memory_of}
use Rattle.bpf_machine.specs.Stack.{in_frames, stack_load, stack_bytes}
use Rattle.bpf_machine.specs.State.{Packet, IsPacket, packet_start, stack_start, context_start}
use Rattle.bpf_machine.proofs.Regions.{seen_in, packet_number, packet_part, stack_number, stack_part, values_number, values_part, context_number, context_slice, packet_write, stack_write}
use Rattle.bpf_machine.proofs.States.{parts}

record Between (a w from to : ℕ) : Type 0 where
  low : from ≤ a
  high : a + w ≤ to

between_true : (a w from to : ℕ) → is_between a w from to ≡ true → Between a w from to
between_true a w from to is = record { low = grind (arith, nat_tests); high = grind (arith, nat_tests) }

length-context_bytes : (env : Env) (from to : ℕ) → length (context_bytes env from to) ≡ 24
unfolding context_bytes
length-context_bytes env from to = refl

-- n bytes of the packet
record IsInPacket (packet : Packet) (a n : ℕ) : Type 0 where
  here : packet_start + (a - packet_start) ≡ a
  fits : a - packet_start + n ≤ length packet.buffer

packet_place : (packet : Packet) (a n : ℕ) → IsPacket packet → is_between a n (packet_start + packet.data_start) (packet_start + packet.data_end) ≡ true → IsInPacket packet a n
packet_place packet a n is inside =
    let end : packet.data_end ≤ length packet.buffer = is.inside in
    let b = between_true a n (packet_start + packet.data_start) (packet_start + packet.data_end) inside in
    let low : packet_start + packet.data_start ≤ a = b.low in
    let high : a + n ≤ packet_start + packet.data_end = b.high in
    record { here = omega arith; fits = omega arith }

-- the region in which n bytes stand, the first that has them
data Region (depth : ℕ) (maps : List Map) (packet : Packet) (a n : ℕ) : Type 0 where
  InPacket : is_between a n (packet_start + packet.data_start) (packet_start + packet.data_end) ≡ true → Region depth maps packet a n
  InStack : is_between a n (packet_start + packet.data_start) (packet_start + packet.data_end) ≡ false → in_frames depth a n ≡ true → Region depth maps packet a n
  InValues : is_between a n (packet_start + packet.data_start) (packet_start + packet.data_end) ≡ false → in_frames depth a n ≡ false → values.can_read maps a n ≡ true → Region depth maps packet a n
  InContext : is_between a n (packet_start + packet.data_start) (packet_start + packet.data_end) ≡ false → in_frames depth a n ≡ false → values.can_read maps a n ≡ false → in_context a n ≡ true → Region depth maps packet a n
  Nowhere : is_between a n (packet_start + packet.data_start) (packet_start + packet.data_end) ≡ false → in_frames depth a n ≡ false → values.can_read maps a n ≡ false → in_context a n ≡ false → Region depth maps packet a n

region : (depth : ℕ) (maps : List Map) (packet : Packet) (a n : ℕ) → Region depth maps packet a n
region depth maps packet a n = elim (cases_Bool (is_between a n (packet_start + packet.data_start) (packet_start + packet.data_end))) [
  | inl inside ↦ InPacket inside
  | inr p ↦ elim (cases_Bool (in_frames depth a n)) [
    | inl inside ↦ InStack p inside
    | inr f ↦ elim (cases_Bool (values.can_read maps a n)) [
      | inl inside ↦ InValues p f inside
      | inr v ↦ elim (cases_Bool (in_context a n)) [ inl inside ↦ InContext p f v inside | inr c ↦ Nowhere p f v c ]
    ]
  ]
]

record IsInContext (context : List ℕ) (a n : ℕ) : Type 0 where
  low : context_start ≤ a
  high : a + n ≤ context_start + length context

context_place : (context : List ℕ) (a n : ℕ) → length context ≡ 24 → in_context a n ≡ true → IsInContext context a n
context_place context a n long inside =
    let b = between_true a n context_start (context_start + 24) inside in
    record { low = b.low; high = rw long b.high }

-- what a read of a number gives, by the regions
pub loaded : (env : Env) (next : ℤ) (target : ℕ) (registers : List ℕ) (callers : List Caller) (stack : List ℕ) (maps : List Map) (packet : Packet) (a : ℕ) (size : Size) → IsPacket packet → length stack ≡ 0x7200 → length callers < 8
    → load_of env (parts next target registers callers stack maps packet) a size
    ≡ option_or (packet_load packet a size) (option_or (stack_load (length callers) stack a size) (option_or (values.load_of maps a size) (context_load env (packet_start + packet.data_start) (packet_start + packet.data_end) a size)))
unfolding load_of can_read values.load_of
loaded env next target registers callers stack maps packet a size is room deep =
    let context : List ℕ = context_bytes env (packet_start + packet.data_start) (packet_start + packet.data_end) in
    let long : length context ≡ 24 = length-context_bytes env (packet_start + packet.data_start) (packet_start + packet.data_end) in
    elim (region (length callers) maps packet a (size_of size)) [
      | InPacket inside ↦
          let place = packet_place packet a (size_of size) is inside in
          let number : number_at (seen_in (length callers) stack maps packet context) a (size_of size) ≡ number_in packet.buffer (a - packet_start) (size_of size) =
          rw place.here at (packet_number (length callers) stack maps packet context (a - packet_start) (size_of size) is place.fits) in
          rw (inside, number) refl
      | InStack p inside ↦ rw (p, inside, stack_number (length callers) stack maps packet context a (size_of size) is room deep inside) refl
      | InValues p f inside ↦ rw (p, f, inside, values_number (length callers) stack maps packet context a (size_of size) is room long inside) refl
      | InContext p f v inside ↦
          let place = context_place context a (size_of size) long inside in
          rw (p, f, v, inside, context_number _ context a (size_of size) place.low place.high) refl
      | Nowhere p f v c ↦ rw (p, f, v, c) refl
    ]

-- what a read of bytes gives, by the regions
pub part_of : (env : Env) (next : ℤ) (target : ℕ) (registers : List ℕ) (callers : List Caller) (stack : List ℕ) (maps : List Map) (packet : Packet) (a n : ℕ) → IsPacket packet → length stack ≡ 0x7200 → length callers < 8
    → bytes_of env (parts next target registers callers stack maps packet) a n
    ≡ option_or (packet_bytes packet a n) (option_or (stack_bytes (length callers) stack a n) (option_or (values.bytes_of maps a n) (context_part (context_bytes env (packet_start + packet.data_start) (packet_start + packet.data_end)) a n)))
unfolding bytes_of can_read values.bytes_of
part_of env next target registers callers stack maps packet a n is room deep =
    let context : List ℕ = context_bytes env (packet_start + packet.data_start) (packet_start + packet.data_end) in
    let long : length context ≡ 24 = length-context_bytes env (packet_start + packet.data_start) (packet_start + packet.data_end) in
    elim (region (length callers) maps packet a n) [
      | InPacket inside ↦
          let place = packet_place packet a n is inside in
          let bytes : bytes_at (seen_in (length callers) stack maps packet context) a n ≡ take n (drop (a - packet_start) packet.buffer) =
          rw place.here at (packet_part (length callers) stack maps packet context (a - packet_start) n is place.fits) in
          rw (inside, bytes) refl
      | InStack p inside ↦ rw (p, inside, stack_part (length callers) stack maps packet context a n is room deep inside) refl
      | InValues p f inside ↦ rw (p, f, inside, values_part (length callers) stack maps packet context a n is room long inside) refl
      | InContext p f v inside ↦
          let place = context_place context a n long inside in
          rw (p, f, v, inside, context_slice _ context a n place.low place.high) refl
      | Nowhere p f v c ↦ rw (p, f, v, c) refl
    ]

-- what a write makes, by the regions
pub stored_in_packet : (next : ℤ) (target : ℕ) (registers : List ℕ) (callers : List Caller) (stack : List ℕ) (maps : List Map) (packet : Packet) (a : ℕ) (size : Size) (value : ℕ) → IsPacket packet
    → is_between a (size_of size) (packet_start + packet.data_start) (packet_start + packet.data_end) ≡ true
    → store_of (parts next target registers callers stack maps packet) a size value ≡ Some (parts next target registers callers stack maps (record packet { buffer = with_bytes packet.buffer (a - packet_start) (stored size value) }))
unfolding store_of
stored_in_packet next target registers callers stack maps packet a size value is inside =
    let place = packet_place packet a (size_of size) is inside in
    let long : length (stored size value) ≡ size_of size = length-stored size value in
    let fits : a - packet_start + length (stored size value) ≤ length packet.buffer = rw long place.fits in
    let memory : written (memory_of (length callers) stack packet) a (stored size value) ≡ memory_of (length callers) stack (record packet { buffer = with_bytes packet.buffer (a - packet_start) (stored size value) }) =
    rw place.here at (packet_write (length callers) stack packet (a - packet_start) (stored size value) is fits) in
    let same : length (with_bytes packet.buffer (a - packet_start) (stored size value)) ≡ length packet.buffer = length-with_bytes packet.buffer (a - packet_start) (stored size value) fits in
    rw (inside, memory, same) refl

pub stored_in_stack : (next : ℤ) (target : ℕ) (registers : List ℕ) (callers : List Caller) (stack : List ℕ) (maps : List Map) (packet : Packet) (a : ℕ) (size : Size) (value : ℕ) → length stack ≡ 0x7200 → length callers < 8
    → is_between a (size_of size) (packet_start + packet.data_start) (packet_start + packet.data_end) ≡ false → in_frames (length callers) a (size_of size) ≡ true
    → store_of (parts next target registers callers stack maps packet) a size value ≡ Some (parts next target registers callers (with_bytes stack (a - stack_start) (stored size value)) maps packet)
unfolding store_of
stored_in_stack next target registers callers stack maps packet a size value room deep outside frame =
    let long : length (stored size value) ≡ size_of size = length-stored size value in
    let frame' : in_frames (length callers) a (length (stored size value)) ≡ true = rw long frame in
    rw (outside, frame, stack_write (length callers) stack packet a (stored size value) room deep frame') refl

-- a write that is neither in the packet nor in the stack
pub stored_outside : (next : ℤ) (target : ℕ) (registers : List ℕ) (callers : List Caller) (stack : List ℕ) (maps new : List Map) (packet : Packet) (a : ℕ) (size : Size) (value : ℕ) (done : Bool)
    → is_between a (size_of size) (packet_start + packet.data_start) (packet_start + packet.data_end) ≡ false → in_frames (length callers) a (size_of size) ≡ false
    → done ≡ values.can_write maps a (size_of size) → (done ≡ true → new ≡ maps_written maps a (stored size value))
    → store_of (parts next target registers callers stack maps packet) a size value ≡ (if done then Some (parts next target registers callers stack new packet) else None)
unfolding store_of
stored_outside next target registers callers stack maps new packet a size value true p f can is = rw (p, f, sym can, is refl) refl
stored_outside next target registers callers stack maps new packet a size value false p f can is = rw (p, f, sym can) refl
