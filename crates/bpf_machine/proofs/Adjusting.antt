-- Packets whose first byte or end is moved.
use Rattle.std.proofs.Common.{◌≡◌, ℕ, ◌+◌, ◌-◌, ◌≤◌, List, length, replicate, Bool, true, ◌&&◌, inl, inr, Some, None, refl, sym, arith}
use Rattle.std.specs.Prelude.{ℤ, pos, negsuc, ◌+ℤ◌, ◌≤ℤ◌, int_le, unsigned_abs}
use Rattle.std.proofs.lemmas.Bool.{cases_Bool}
use Rattle.std.proofs.lemmas.Int.{ints}
use Rattle.std.proofs.lemmas.List.{length-replicate}
use Rattle.flat_memory.specs.Memory.{written}
use Rattle.flat_memory.specs.Numbers.{with_bytes}
use Rattle.flat_memory.proofs.Bytes.{length-with_bytes}
use Rattle.map_store.specs.Slots.{Map}
use Rattle.bpf_machine.specs.declared.scratch.Caller.{Caller}
use Rattle.bpf_machine.specs.Helpers.{answered, refusal, move_head, move_tail}
use Rattle.bpf_machine.specs.Machine.{memory_of, with_start, with_end}
use Rattle.bpf_machine.specs.State.{Packet, IsPacket, packet_start}
use Rattle.bpf_machine.proofs.Regions.{packet_write}
use Rattle.bpf_machine.proofs.States.{parts}

abs_address : (x : ℤ) → pos 0 ≤ℤ x → unsigned_abs (pos packet_start +ℤ x) ≡ packet_start + unsigned_abs x
abs_address (pos n) above = refl
abs_address (negsuc n) above = absurd (omega (arith, ints))

-- an address of the packet that is moved
address_moved : (place : ℕ) (delta : ℤ) → pos 0 ≤ℤ (pos place +ℤ delta) → unsigned_abs (pos (packet_start + place) +ℤ delta) ≡ packet_start + unsigned_abs (pos place +ℤ delta)
address_moved place delta above =
    let same : pos (packet_start + place) +ℤ delta ≡ pos packet_start +ℤ (pos place +ℤ delta) = omega (arith, ints) in
    rw same (abs_address (pos place +ℤ delta) above)

above_test : (x : ℤ) (b : Bool) → (int_le (pos 0) x && b) ≡ true → pos 0 ≤ℤ x
above_test x b test = grind (arith, ints)

head_test : (place end : ℕ) (delta : ℤ) → (int_le (pos packet_start) (pos (packet_start + place) +ℤ delta) && int_le ((pos (packet_start + place) +ℤ delta) +ℤ pos 14) (pos (packet_start + end)))
    ≡ (int_le (pos 0) (pos place +ℤ delta) && int_le ((pos place +ℤ delta) +ℤ pos 14) (pos end))
head_test place end delta =
    let low : int_le (pos packet_start) (pos (packet_start + place) +ℤ delta) ≡ int_le (pos 0) (pos place +ℤ delta) = grind (arith, ints) in
    let high : int_le ((pos (packet_start + place) +ℤ delta) +ℤ pos 14) (pos (packet_start + end)) ≡ int_le ((pos place +ℤ delta) +ℤ pos 14) (pos end) = grind (arith, ints) in
    rw (low, high) refl

tail_test : (place end size : ℕ) (delta : ℤ) → (int_le (pos (packet_start + place + 14)) (pos (packet_start + end) +ℤ delta) && int_le (pos (packet_start + end) +ℤ delta) (pos (packet_start + size)))
    ≡ (int_le (pos (place + 14)) (pos end +ℤ delta) && int_le (pos end +ℤ delta) (pos size))
tail_test place end size delta =
    let low : int_le (pos (packet_start + place + 14)) (pos (packet_start + end) +ℤ delta) ≡ int_le (pos (place + 14)) (pos end +ℤ delta) = grind (arith, ints) in
    let high : int_le (pos (packet_start + end) +ℤ delta) (pos (packet_start + size)) ≡ int_le (pos end +ℤ delta) (pos size) = grind (arith, ints) in
    rw (low, high) refl

pub end_within : (x : ℤ) (size : ℕ) → pos 0 ≤ℤ x → x ≤ℤ pos size → unsigned_abs x ≤ size
end_within (pos n) size above below = omega (arith, ints)
end_within (negsuc n) size above below = absurd (omega (arith, ints))

some_packet : (a b : Packet) → Some a ≡ Some b → b ≡ a
some_packet a b same = cc

none_packet : (a : Packet) → None ≡ Some a → ⊥
none_packet a same = cc

-- the first byte, moved and not moved
pub head_moved : (next : ℤ) (target : ℕ) (registers : List ℕ) (callers : List Caller) (stack : List ℕ) (maps : List Map) (packet new : Packet) (delta : ℤ) → with_start packet delta ≡ Some new
    → move_head (parts next target registers callers stack maps packet) delta ≡ answered (parts next target registers callers stack maps new) 0
unfolding with_start move_head memory_of
head_moved next target registers callers stack maps packet new delta is =
    let x : ℤ = pos packet.data_start +ℤ delta in
    elim (cases_Bool (int_le (pos 0) x && int_le (x +ℤ pos 14) (pos packet.data_end))) [
      | inl test ↦
          let same : new ≡ record packet { data_start = unsigned_abs x } = some_packet (record packet { data_start = unsigned_abs x }) new (rw test at is) in
          rw (same, head_test packet.data_start packet.data_end delta, test, address_moved packet.data_start delta (above_test x _ test)) refl
      | inr test ↦ absurd (none_packet new (rw test at is))
    ]

pub head_stays : (next : ℤ) (target : ℕ) (registers : List ℕ) (callers : List Caller) (stack : List ℕ) (maps : List Map) (packet : Packet) (delta : ℤ) → with_start packet delta ≡ None
    → move_head (parts next target registers callers stack maps packet) delta ≡ answered (parts next target registers callers stack maps packet) (refusal 22)
unfolding with_start move_head
head_stays next target registers callers stack maps packet delta is =
    let x : ℤ = pos packet.data_start +ℤ delta in
    elim (cases_Bool (int_le (pos 0) x && int_le (x +ℤ pos 14) (pos packet.data_end))) [
      | inl test ↦ absurd (none_packet (record packet { data_start = unsigned_abs x }) (sym (rw test at is)))
      | inr test ↦ rw (head_test packet.data_start packet.data_end delta, test) refl
    ]

-- the end, moved and not moved
pub tail_moved : (next : ℤ) (target : ℕ) (registers : List ℕ) (callers : List Caller) (stack : List ℕ) (maps : List Map) (packet new : Packet) (delta : ℤ) → IsPacket packet → with_end packet delta ≡ Some new
    → move_tail (parts next target registers callers stack maps packet) delta ≡ answered (parts next target registers callers stack maps new) 0
unfolding with_end move_tail memory_of
tail_moved next target registers callers stack maps packet new delta is ends =
    let x : ℤ = pos packet.data_end +ℤ delta in
    let zeros : List ℕ = replicate (unsigned_abs x - packet.data_end) 0 in
    elim (cases_Bool (int_le (pos (packet.data_start + 14)) x && int_le x (pos (length packet.buffer)))) [
      | inl test ↦
          let same : new ≡ record packet { data_end = unsigned_abs x; buffer = with_bytes packet.buffer packet.data_end zeros } = some_packet _ new (rw test at ends) in
          let above : pos 0 ≤ℤ x = grind (arith, ints) in
          let within : unsigned_abs x ≤ length packet.buffer = end_within x (length packet.buffer) above (grind (arith, ints)) in
          let inside : packet.data_end ≤ length packet.buffer = is.inside in
          let many : length zeros ≡ unsigned_abs x - packet.data_end = length-replicate (unsigned_abs x - packet.data_end) 0 in
          let fits : packet.data_end + length zeros ≤ length packet.buffer = omega arith in
          let count : packet_start + unsigned_abs x - (packet_start + packet.data_end) ≡ unsigned_abs x - packet.data_end = omega arith in
          let memory : written (memory_of (length callers) stack packet) (packet_start + packet.data_end) zeros ≡ memory_of (length callers) stack (record packet { buffer = with_bytes packet.buffer packet.data_end zeros }) = packet_write (length callers) stack packet packet.data_end zeros is fits in
          let long : length (with_bytes packet.buffer packet.data_end zeros) ≡ length packet.buffer = length-with_bytes packet.buffer packet.data_end zeros fits in
          rw (same, tail_test packet.data_start packet.data_end (length packet.buffer) delta, test, address_moved packet.data_end delta above, count, memory, long) refl
      | inr test ↦ absurd (none_packet new (rw test at ends))
    ]

pub tail_stays : (next : ℤ) (target : ℕ) (registers : List ℕ) (callers : List Caller) (stack : List ℕ) (maps : List Map) (packet : Packet) (delta : ℤ) → with_end packet delta ≡ None
    → move_tail (parts next target registers callers stack maps packet) delta ≡ answered (parts next target registers callers stack maps packet) (refusal 22)
unfolding with_end move_tail
tail_stays next target registers callers stack maps packet delta ends =
    let x : ℤ = pos packet.data_end +ℤ delta in
    elim (cases_Bool (int_le (pos (packet.data_start + 14)) x && int_le x (pos (length packet.buffer)))) [
      | inl test ↦ absurd (none_packet _ (sym (rw test at ends)))
      | inr test ↦ rw (tail_test packet.data_start packet.data_end (length packet.buffer) delta, test) refl
    ]
