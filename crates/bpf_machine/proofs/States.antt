-- States by their parts: what a call, an exit and a start make of them.
use Rattle.std.proofs.Common.{◌≡◌, ℕ, ◌+◌, ◌-◌, ◌*◌, ◌^◌, ◌<◌, ◌≤◌, List, [], ◌∷◌, ◌++◌, length, take, drop, true, false, nat_lt, Some, None, slice_get, slice_set, slice_index, drop-cons, refl, sym, ap, ◌∙◌, arith, length-append}
use Rattle.std.specs.Prelude.{ℤ, pos, ◌+ℤ◌}
use Rattle.std.proofs.lemmas.Bool.Decides.{nat_tests}
use Rattle.std.proofs.lemmas.List.{append-nil, drop-drop, drop_all}
use Rattle.flat_memory.specs.Memory.{overlaid, without}
use Rattle.flat_memory.specs.Numbers.{with_bytes}
use Rattle.flat_memory.proofs.Laws.{masked-below, block-here}
use Rattle.std.specs.Int.{w32, cast_unsigned}
use Rattle.bpf_insn.specs.declared.insn.Insn.{Insn}
use Rattle.map_store.specs.Slots.{Map}
use Rattle.bpf_machine.specs.declared.scratch.Caller.{Caller}
use Rattle.bpf_machine.specs.Instruction.{call_local, exit_to, exit_of, wide_act}
use Rattle.bpf_machine.specs.Next.{Goes, Ends, Faults}
use Rattle.bpf_machine.specs.Machine.{memory_of, stack_mask}
use Rattle.bpf_machine.specs.Run.{HoldsPacket}
use Rattle.bpf_machine.specs.State.{State, Packet, IsPacket, packet_start, stack_start, frame_start, frame_size, empty_frame, start, start_registers}
use Rattle.bpf_machine.proofs.Frames.{entered, left, started}

abbrev pub parts : ℤ → ℕ → List ℕ → List Caller → List ℕ → List Map → Packet → State
parts next target registers callers stack maps packet = record {
  next = next;
  registers = registers;
  callers = callers;
  memory = memory_of (length callers) stack packet;
  maps = maps;
  data_start = packet_start + packet.data_start;
  data_end = packet_start + packet.data_end;
  buffer_end = packet_start + length packet.buffer;
  target = target;
}

pub parts_same : (next next' : ℤ) (target : ℕ) (registers registers' : List ℕ) (callers callers' : List Caller) (stack stack' : List ℕ) (maps : List Map) (packet : Packet) → next ≡ next' → registers ≡ registers' → callers ≡ callers' → stack ≡ stack'
    → parts next target registers callers stack maps packet ≡ parts next' target registers' callers' stack' maps packet
parts_same next next' target registers registers' callers callers' stack stack' maps packet a b c d = rw (a, b, c, d) refl

-- a wide load
pub wide_loaded : (at target : ℕ) (registers : List ℕ) (callers : List Caller) (stack : List ℕ) (maps : List Map) (packet : Packet) (insn half : Insn) (value : ℕ) (next : ℤ)
    → value ≡ cast_unsigned w32 insn.imm + 2 ^ 32 * cast_unsigned w32 half.imm → next ≡ pos at +ℤ pos 2
    → wide_act (parts (pos at) target registers callers stack maps packet) insn (Some half) ≡ Goes (parts next target (slice_set registers insn.target value) callers stack maps packet)
unfolding wide_act
wide_loaded at target registers callers stack maps packet insn half value next is to = rw (is, to) refl

-- a call of a function
pub called : (at target : ℕ) (registers : List ℕ) (callers : List Caller) (stack : List ℕ) (maps : List Map) (packet : Packet) (distance : ℤ) (kept : List ℕ) → length callers < 7 → length stack ≡ 0x7200 → kept ≡ drop 6 registers
    → call_local (parts (pos at) target registers callers stack maps packet) distance
    ≡ Goes (parts ((pos at +ℤ pos 1) +ℤ distance) target (slice_set registers 10 (frame_start (length callers + 1) + frame_size)) (callers ++ record { call = at; kept = kept } ∷ []) (with_bytes stack (0x1000 * (length callers + 1)) empty_frame) maps packet)
unfolding call_local
called at target registers callers stack maps packet distance kept deep room is =
    let test : nat_lt (length callers + 1) 8 ≡ true = grind (arith, nat_tests) in
    let long : length (callers ++ record { call = at; kept = drop 6 registers } ∷ []) ≡ length callers + 1 = length-append callers (record { call = at; kept = drop 6 registers } ∷ []) in
    rw (is, test, long, entered (length callers) stack packet room deep) refl

pub too_deep : (at target : ℕ) (registers : List ℕ) (callers : List Caller) (stack : List ℕ) (maps : List Map) (packet : Packet) (distance : ℤ) → length callers ≡ 7
    → call_local (parts (pos at) target registers callers stack maps packet) distance ≡ Faults (parts (pos at) target registers callers stack maps packet)
unfolding call_local
too_deep at target registers callers stack maps packet distance full =
    let test : nat_lt (length callers + 1) 8 ≡ false = grind (arith, nat_tests) in
    rw test refl

-- an exit
pub left_none : (at : ℤ) (target : ℕ) (registers : List ℕ) (callers : List Caller) (stack : List ℕ) (maps : List Map) (packet : Packet) → slice_get callers (length callers - 1) ≡ None
    → exit_of (parts at target registers callers stack maps packet) ≡ Ends (parts at target registers callers stack maps packet)
unfolding exit_to
left_none at target registers callers stack maps packet none = rw none refl

rest_gone : (registers kept : List ℕ) → length registers ≡ 11 → take 6 registers ++ (kept ++ drop 5 (drop 6 registers)) ≡ take 6 registers ++ kept
rest_gone registers kept long =
    let gone : drop 5 (drop 6 registers) ≡ [] = drop-drop 5 6 registers ∙ drop_all 11 registers (omega arith) in
    rw (gone, append-nil kept) refl

-- r6 to r10
pub kept_is : (registers : List ℕ) → length registers ≡ 11 → slice_index registers 6 ∷ slice_index registers 7 ∷ slice_index registers 8 ∷ slice_index registers 9 ∷ slice_index registers 10 ∷ [] ≡ drop 6 registers
kept_is registers long =
    let h6 : 6 < length registers = omega arith in
    let h7 : 7 < length registers = omega arith in
    let h8 : 8 < length registers = omega arith in
    let h9 : 9 < length registers = omega arith in
    let h10 : 10 < length registers = omega arith in
    let e10 : drop 10 registers ≡ slice_index registers 10 ∷ [] = drop-cons registers 10 0 h10 ∙ ap (λ (t : List ℕ). slice_index registers 10 ∷ t) (drop_all 11 registers (omega arith)) in
    let e9 : drop 9 registers ≡ slice_index registers 9 ∷ slice_index registers 10 ∷ [] = drop-cons registers 9 0 h9 ∙ ap (λ (t : List ℕ). slice_index registers 9 ∷ t) e10 in
    let e8 : drop 8 registers ≡ slice_index registers 8 ∷ slice_index registers 9 ∷ slice_index registers 10 ∷ [] = drop-cons registers 8 0 h8 ∙ ap (λ (t : List ℕ). slice_index registers 8 ∷ t) e9 in
    let e7 : drop 7 registers ≡ slice_index registers 7 ∷ slice_index registers 8 ∷ slice_index registers 9 ∷ slice_index registers 10 ∷ [] = drop-cons registers 7 0 h7 ∙ ap (λ (t : List ℕ). slice_index registers 7 ∷ t) e8 in
    sym (drop-cons registers 6 0 h6 ∙ ap (λ (t : List ℕ). slice_index registers 6 ∷ t) e7)

pub left_some : (at : ℤ) (target : ℕ) (registers : List ℕ) (callers others : List Caller) (stack : List ℕ) (maps : List Map) (packet : Packet) (caller : Caller) → IsPacket packet → length registers ≡ 11
    → slice_get callers (length callers - 1) ≡ Some caller → others ≡ take (length callers - 1) callers → length others + 1 ≡ length callers
    → exit_of (parts at target registers callers stack maps packet) ≡ Goes (parts (pos caller.call +ℤ pos 1) target (take 6 registers ++ (caller.kept ++ drop 5 (drop 6 registers))) others stack maps packet)
unfolding exit_to
left_some at target registers callers others stack maps packet caller is long last rest one =
    let memory : without (memory_of (length callers) stack packet) (frame_start (length callers)) frame_size ≡ memory_of (length others) stack packet = rw (← one) (sym (left (length others) stack packet is)) in
    rw (last, rest_gone registers caller.kept long, memory, ← rest) refl

pub restarted : (stack : List ℕ) (maps : List Map) (packet : Packet) → length stack ≡ 0x7200 → parts (pos 0) 0 start_registers [] (with_bytes stack 0 empty_frame) maps packet ≡ start maps packet
unfolding start
restarted stack maps packet room = rw (started stack packet room) refl

pub holds : (next : ℤ) (target : ℕ) (registers : List ℕ) (callers : List Caller) (stack : List ℕ) (maps : List Map) (packet : Packet) → IsPacket packet → HoldsPacket (parts next target registers callers stack maps packet) packet
unfolding memory_of overlaid
holds next target registers callers stack maps packet is = record {
  data_start = refl;
  data_end = refl;
  buffer_end = refl;
  bytes = λ k below.
      let small : length packet.buffer ≤ 0x4000 = is.small in
      let low : packet_start + k < stack_start = omega arith in
      rw (masked-below stack_start (stack_mask (length callers)) stack (packet_start + k) low, block-here packet_start packet.buffer k) refl;
}
