-- What the program sees in each region, and writes to the packet and the stack.
use Rattle.std.proofs.Common.{◌≡◌, ℕ, ◌+◌, ◌-◌, ◌/◌, ◌%◌, ◌<◌, ◌≤◌, List, length, take, drop, true, false, nat_le, slice_get, None, refl, sym, ap, ◌∙◌, arith, inl, inr}
use Rattle.std.proofs.lemmas.Bool.Decides.{nat_tests}
use Rattle.std.proofs.lemmas.Option.{unwrap_or-slice_get}
use Rattle.flat_memory.specs.Memory.{Memory, masked, block, written, overlaid, number_at, bytes_at}
use Rattle.flat_memory.specs.Numbers.{number_in, with_bytes}
use Rattle.flat_memory.proofs.Laws.{number_at-same, number_at-bytes, bytes_at-same, bytes_at-bytes, masked-below, masked-past, masked-number, masked-bytes, masked-write, block_is-masked, block-elsewhere, written-here, written-elsewhere, or_none, overlaid-write_upper, overlaid-write_lower}
use Rattle.map_store.specs.Slots.{Map}
use Rattle.map_store.specs.Values.{values, values_start, can_read}
use Rattle.bpf_machine.specs.Machine.{memory_of, stack_mask}
use Rattle.bpf_machine.specs.Stack.{in_frames}
use Rattle.bpf_machine.specs.State.{Packet, IsPacket, packet_start, stack_start, context_start}

-- what a program sees, of which the packet and the stack are buffers and the context is these bytes
abbrev pub seen_in : ℕ → List ℕ → List Map → Packet → List ℕ → Memory
seen_in depth stack maps packet context = written (overlaid (memory_of depth stack packet) (values maps)) context_start context

values-below : (maps : List Map) (a : ℕ) → a < values_start → values maps a ≡ None
unfolding values
values-below maps a below = let test : nat_le values_start a ≡ false = grind (arith, nat_tests) in rw test refl

seen-packet : (depth : ℕ) (stack : List ℕ) (maps : List Map) (packet : Packet) (context : List ℕ) (a : ℕ) → a < stack_start → seen_in depth stack maps packet context a ≡ block packet_start packet.buffer a
unfolding memory_of overlaid
seen-packet depth stack maps packet context a below =
    written-elsewhere (overlaid (memory_of depth stack packet) (values maps)) context_start context a (inl (omega arith))
    ∙ rw (values-below maps a (omega arith), masked-below stack_start (stack_mask depth) stack a below) (or_none (block packet_start packet.buffer a))

seen-stack : (depth : ℕ) (stack : List ℕ) (maps : List Map) (packet : Packet) (context : List ℕ) (a : ℕ) → IsPacket packet → stack_start ≤ a → a < context_start → seen_in depth stack maps packet context a ≡ masked stack_start (stack_mask depth) stack a
unfolding memory_of overlaid
seen-stack depth stack maps packet context a is above below =
    let small : length packet.buffer ≤ 0x4000 = is.small in
    written-elsewhere (overlaid (memory_of depth stack packet) (values maps)) context_start context a (inl below)
    ∙ rw (values-below maps a (omega arith), block-elsewhere packet_start packet.buffer a (inr (omega arith)), or_none (masked stack_start (stack_mask depth) stack a)) (or_none (masked stack_start (stack_mask depth) stack a))

seen-values : (depth : ℕ) (stack : List ℕ) (maps : List Map) (packet : Packet) (context : List ℕ) (a : ℕ) → IsPacket packet → length stack ≡ 0x7200 → length context ≡ 24 → values_start ≤ a → seen_in depth stack maps packet context a ≡ values maps a
unfolding memory_of overlaid
seen-values depth stack maps packet context a is room long above =
    let small : length packet.buffer ≤ 0x4000 = is.small in
    written-elsewhere (overlaid (memory_of depth stack packet) (values maps)) context_start context a (inr (omega arith))
    ∙ rw (masked-past stack_start (stack_mask depth) stack a (omega arith), block-elsewhere packet_start packet.buffer a (inr (omega arith))) refl

-- a place of a frame, and what the mask shows there
pub record InFrames (depth a n : ℕ) : Type 0 where
  pub above : stack_start ≤ a
  pub deep : (a - stack_start) / 0x1000 ≤ depth
  pub within : (a - stack_start) % 0x1000 + n ≤ 512

pub in_frames_true : (depth a n : ℕ) → in_frames depth a n ≡ true → InFrames depth a n
unfolding in_frames
in_frames_true depth a n is = record { above = grind (arith, nat_tests); deep = grind (arith, nat_tests); within = grind (arith, nat_tests) }

shown : (depth place n i : ℕ) → place / 0x1000 ≤ depth → place % 0x1000 + n ≤ 512 → i < n → stack_mask depth (place + i) ≡ true
shown depth place n i deep within below =
    let low : (place + i) % 0x1000 < 512 = omega arith in
    let same : (place + i) / 0x1000 ≤ depth = omega arith in
    grind (arith, nat_tests)

-- the packet's buffer
pub packet_number : (depth : ℕ) (stack : List ℕ) (maps : List Map) (packet : Packet) (context : List ℕ) (place n : ℕ) → IsPacket packet → place + n ≤ length packet.buffer
    → number_at (seen_in depth stack maps packet context) (packet_start + place) n ≡ number_in packet.buffer place n
packet_number depth stack maps packet context place n is fits =
    let small : length packet.buffer ≤ 0x4000 = is.small in
    number_at-same n (packet_start + place) (packet_start + place) (seen_in depth stack maps packet context) (block packet_start packet.buffer) (λ i below. seen-packet depth stack maps packet context (packet_start + place + i) (omega arith))
    ∙ rw (block_is-masked packet_start packet.buffer) (masked-number packet_start (λ _. true) packet.buffer place n fits (λ i below. refl))

pub packet_part : (depth : ℕ) (stack : List ℕ) (maps : List Map) (packet : Packet) (context : List ℕ) (place n : ℕ) → IsPacket packet → place + n ≤ length packet.buffer
    → bytes_at (seen_in depth stack maps packet context) (packet_start + place) n ≡ take n (drop place packet.buffer)
packet_part depth stack maps packet context place n is fits =
    let small : length packet.buffer ≤ 0x4000 = is.small in
    bytes_at-same n (packet_start + place) (packet_start + place) (seen_in depth stack maps packet context) (block packet_start packet.buffer) (λ i below. seen-packet depth stack maps packet context (packet_start + place + i) (omega arith))
    ∙ rw (block_is-masked packet_start packet.buffer) (masked-bytes packet_start (λ _. true) packet.buffer place n fits (λ i below. refl))

-- a frame of the stack
pub stack_number : (depth : ℕ) (stack : List ℕ) (maps : List Map) (packet : Packet) (context : List ℕ) (a n : ℕ) → IsPacket packet → length stack ≡ 0x7200 → depth < 8 → in_frames depth a n ≡ true
    → number_at (seen_in depth stack maps packet context) a n ≡ number_in stack (a - stack_start) n
stack_number depth stack maps packet context a n is room deep inside =
    let f = in_frames_true depth a n inside in
    let above : stack_start ≤ a = f.above in
    let frame : (a - stack_start) / 0x1000 ≤ depth = f.deep in
    let within : (a - stack_start) % 0x1000 + n ≤ 512 = f.within in
    let here : stack_start + (a - stack_start) ≡ a = omega arith in
    let fits : a - stack_start + n ≤ length stack = omega arith in
    number_at-same n a a (seen_in depth stack maps packet context) (masked stack_start (stack_mask depth) stack) (λ i below. seen-stack depth stack maps packet context (a + i) is (omega arith) (omega arith))
    ∙ rw here at (masked-number stack_start (stack_mask depth) stack (a - stack_start) n fits (λ i below. shown depth (a - stack_start) n i frame within below))

pub stack_part : (depth : ℕ) (stack : List ℕ) (maps : List Map) (packet : Packet) (context : List ℕ) (a n : ℕ) → IsPacket packet → length stack ≡ 0x7200 → depth < 8 → in_frames depth a n ≡ true
    → bytes_at (seen_in depth stack maps packet context) a n ≡ take n (drop (a - stack_start) stack)
stack_part depth stack maps packet context a n is room deep inside =
    let f = in_frames_true depth a n inside in
    let above : stack_start ≤ a = f.above in
    let frame : (a - stack_start) / 0x1000 ≤ depth = f.deep in
    let within : (a - stack_start) % 0x1000 + n ≤ 512 = f.within in
    let here : stack_start + (a - stack_start) ≡ a = omega arith in
    let fits : a - stack_start + n ≤ length stack = omega arith in
    bytes_at-same n a a (seen_in depth stack maps packet context) (masked stack_start (stack_mask depth) stack) (λ i below. seen-stack depth stack maps packet context (a + i) is (omega arith) (omega arith))
    ∙ rw here at (masked-bytes stack_start (stack_mask depth) stack (a - stack_start) n fits (λ i below. shown depth (a - stack_start) n i frame within below))

-- values of maps
above_values : (maps : List Map) (a n : ℕ) → can_read maps a n ≡ true → values_start ≤ a
unfolding can_read
above_values maps a n can = grind (arith, nat_tests)

pub values_number : (depth : ℕ) (stack : List ℕ) (maps : List Map) (packet : Packet) (context : List ℕ) (a n : ℕ) → IsPacket packet → length stack ≡ 0x7200 → length context ≡ 24 → can_read maps a n ≡ true
    → number_at (seen_in depth stack maps packet context) a n ≡ number_at (values maps) a n
values_number depth stack maps packet context a n is room long can =
    let above : values_start ≤ a = above_values maps a n can in
    number_at-same n a a (seen_in depth stack maps packet context) (values maps) (λ i below. seen-values depth stack maps packet context (a + i) is room long (omega arith))

pub values_part : (depth : ℕ) (stack : List ℕ) (maps : List Map) (packet : Packet) (context : List ℕ) (a n : ℕ) → IsPacket packet → length stack ≡ 0x7200 → length context ≡ 24 → can_read maps a n ≡ true
    → bytes_at (seen_in depth stack maps packet context) a n ≡ bytes_at (values maps) a n
values_part depth stack maps packet context a n is room long can =
    let above : values_start ≤ a = above_values maps a n can in
    bytes_at-same n a a (seen_in depth stack maps packet context) (values maps) (λ i below. seen-values depth stack maps packet context (a + i) is room long (omega arith))

-- the context
context_byte : (memory : Memory) (context : List ℕ) (a n : ℕ) → context_start ≤ a → a + n ≤ context_start + length context → (i : ℕ) → i < n → written memory context_start context (a + i) ≡ slice_get context (a - context_start + i)
context_byte memory context a n above fits i below =
    let here : context_start + (a - context_start + i) ≡ a + i = omega arith in
    let within : a - context_start + i < length context = omega arith in
    rw here at (written-here memory context_start context (a - context_start + i) within)

pub context_number : (memory : Memory) (context : List ℕ) (a n : ℕ) → context_start ≤ a → a + n ≤ context_start + length context
    → number_at (written memory context_start context) a n ≡ number_in context (a - context_start) n
context_number memory context a n above fits =
    number_at-bytes n a (a - context_start) (written memory context_start context) context (λ i below. rw (context_byte memory context a n above fits i below) (unwrap_or-slice_get context (a - context_start + i) 0))

pub context_slice : (memory : Memory) (context : List ℕ) (a n : ℕ) → context_start ≤ a → a + n ≤ context_start + length context
    → bytes_at (written memory context_start context) a n ≡ take n (drop (a - context_start) context)
context_slice memory context a n above fits =
    bytes_at-bytes n a (a - context_start) (written memory context_start context) context (omega arith) (λ i below. rw (context_byte memory context a n above fits i below) (unwrap_or-slice_get context (a - context_start + i) 0))

-- a write to the packet
pub packet_write : (depth : ℕ) (stack : List ℕ) (packet : Packet) (place : ℕ) (bytes : List ℕ) → IsPacket packet → place + length bytes ≤ length packet.buffer
    → written (memory_of depth stack packet) (packet_start + place) bytes ≡ memory_of depth stack (record packet { buffer = with_bytes packet.buffer place bytes })
unfolding memory_of
packet_write depth stack packet place bytes is fits =
    let small : length packet.buffer ≤ 0x4000 = is.small in
    let changed : block packet_start (with_bytes packet.buffer place bytes) ≡ written (block packet_start packet.buffer) (packet_start + place) bytes =
    block_is-masked packet_start (with_bytes packet.buffer place bytes)
    ∙ masked-write packet_start (λ _. true) packet.buffer bytes place fits (λ i below. refl)
    ∙ ap (λ (m : Memory). written m (packet_start + place) bytes) (sym (block_is-masked packet_start packet.buffer)) in
    rw changed (sym (overlaid-write_lower (masked stack_start (stack_mask depth) stack) (block packet_start packet.buffer) (packet_start + place) bytes (λ i below. masked-below stack_start (stack_mask depth) stack (packet_start + place + i) (omega arith))))

-- a write to the stack
pub stack_write : (depth : ℕ) (stack : List ℕ) (packet : Packet) (a : ℕ) (bytes : List ℕ) → length stack ≡ 0x7200 → depth < 8 → in_frames depth a (length bytes) ≡ true
    → written (memory_of depth stack packet) a bytes ≡ memory_of depth (with_bytes stack (a - stack_start) bytes) packet
unfolding memory_of
stack_write depth stack packet a bytes room deep inside =
    let f = in_frames_true depth a (length bytes) inside in
    let above : stack_start ≤ a = f.above in
    let frame : (a - stack_start) / 0x1000 ≤ depth = f.deep in
    let within : (a - stack_start) % 0x1000 + length bytes ≤ 512 = f.within in
    let here : stack_start + (a - stack_start) ≡ a = omega arith in
    let fits : a - stack_start + length bytes ≤ length stack = omega arith in
    let changed : masked stack_start (stack_mask depth) (with_bytes stack (a - stack_start) bytes) ≡ written (masked stack_start (stack_mask depth) stack) a bytes =
    rw here at (masked-write stack_start (stack_mask depth) stack bytes (a - stack_start) fits (λ i below. shown depth (a - stack_start) (length bytes) i frame within below)) in
    rw changed (sym (overlaid-write_upper (masked stack_start (stack_mask depth) stack) (block packet_start packet.buffer) a bytes))
