-- Frames of the stack that are entered and left.
use mathlib.Core.Path.{fun_ext}
use Rattle.std.proofs.Common.{◌≡◌, ℕ, ◌+◌, ◌-◌, ◌*◌, ◌/◌, ◌%◌, ◌<◌, ◌≤◌, List, length, Bool, true, false, nat_le, nat_lt, ◌&&◌, ◌⊎◌, inl, inr, None, refl, sym, ◌∙◌, arith}
use Rattle.std.proofs.lemmas.Bool.{cases_lt, cases_Bool}
use Rattle.std.proofs.lemmas.Bool.Decides.{nat_tests}
use Rattle.flat_memory.specs.Memory.{masked, block, overlaid, written, without}
use Rattle.flat_memory.specs.Numbers.{with_bytes}
use Rattle.flat_memory.proofs.Laws.{masked-below, masked-shown, masked-hidden, masked-write, block-here, block-elsewhere, written-here, written-elsewhere, overlaid-write_upper, with_bytes-here}
use Rattle.bpf_machine.specs.Machine.{memory_of, stack_mask}
use Rattle.bpf_machine.specs.State.{Packet, IsPacket, packet_start, stack_start, frame_start, frame_size, empty_frame}

pub length-empty_frame : length empty_frame ≡ 512
unfolding empty_frame
length-empty_frame = refl

-- a place outside the next frame is shown where it was
mask_apart : (depth k : ℕ) → (k < 0x1000 * (depth + 1)) ⊎ (0x1000 * (depth + 1) + 512 ≤ k) → stack_mask (depth + 1) k ≡ stack_mask depth k
mask_apart depth k apart = elim apart [
  | inl below ↦
      let up : k / 0x1000 ≤ depth = omega arith in
      let same : nat_le (k / 0x1000) depth ≡ true = grind (arith, nat_tests) in
      let more : nat_le (k / 0x1000) (depth + 1) ≡ true = grind (arith, nat_tests) in
      rw (same, more) refl
  | inr above ↦ elim (cases_lt (k % 0x1000) 512) [
    | inl low ↦
        let past : depth + 1 < k / 0x1000 = omega arith in
        let same : nat_le (k / 0x1000) depth ≡ false = grind (arith, nat_tests) in
        let more : nat_le (k / 0x1000) (depth + 1) ≡ false = grind (arith, nat_tests) in
        rw (same, more) refl
    | inr high ↦ let none : nat_lt (k % 0x1000) 512 ≡ false = grind (arith, nat_tests) in rw none refl
  ]
]

mask_inside : (depth i : ℕ) → i < 512 → stack_mask depth (0x1000 * depth + i) ≡ true
mask_inside depth i below =
    let low : (0x1000 * depth + i) % 0x1000 ≡ i = omega arith in
    let same : (0x1000 * depth + i) / 0x1000 ≡ depth = omega arith in
    let test : nat_lt i 512 ≡ true = grind (arith, nat_tests) in
    let deep : nat_le depth depth ≡ true = grind (arith, nat_tests) in
    rw (low, same, test, deep) refl

mask_outside : (depth i : ℕ) → i < 512 → stack_mask depth (0x1000 * (depth + 1) + i) ≡ false
mask_outside depth i below =
    let past : depth < (0x1000 * (depth + 1) + i) / 0x1000 = omega arith in
    let none : nat_le ((0x1000 * (depth + 1) + i) / 0x1000) depth ≡ false = grind (arith, nat_tests) in
    let low : nat_lt ((0x1000 * (depth + 1) + i) % 0x1000) 512 ≡ true = let e : (0x1000 * (depth + 1) + i) % 0x1000 < 512 = omega arith in grind (arith, nat_tests) in
    rw (low, none) refl

cases_range : (k place n : ℕ) → ((k < place) ⊎ (place + n ≤ k)) ⊎ ((place ≤ k) × (k < place + n))
cases_range k place n = elim (cases_lt k place) [
  | inl below ↦ inl (inl below)
  | inr above ↦ elim (cases_lt k (place + n)) [ inl inside ↦ inr (above, inside) | inr past ↦ inl (inr past) ]
]

-- bytes that two masks show alike
masked-same : (start : ℕ) (a b : ℕ → Bool) (bytes : List ℕ) (k : ℕ) → a k ≡ b k → masked start a bytes (start + k) ≡ masked start b bytes (start + k)
masked-same start a b bytes k same = elim (cases_Bool (b k)) [
  | inl seen ↦ rw (masked-shown start a bytes k (same ∙ seen), masked-shown start b bytes k seen) refl
  | inr hidden ↦ rw (masked-hidden start a bytes k (same ∙ hidden), masked-hidden start b bytes k hidden) refl
]

-- the next frame, which a write fills
deeper_at : (depth : ℕ) (stack : List ℕ) (bytes : List ℕ) → length bytes ≡ 512 → (a : ℕ)
    → written (masked stack_start (stack_mask (depth + 1)) stack) (frame_start (depth + 1)) bytes a ≡ written (masked stack_start (stack_mask depth) stack) (frame_start (depth + 1)) bytes a
deeper_at depth stack bytes long a = elim (cases_range a (frame_start (depth + 1)) 512) [
  | inl apart ↦
      let out : (a < frame_start (depth + 1)) ⊎ (frame_start (depth + 1) + length bytes ≤ a) = elim apart [ inl l ↦ inl l | inr r ↦ inr (omega arith) ] in
      rw (written-elsewhere (masked stack_start (stack_mask (depth + 1)) stack) (frame_start (depth + 1)) bytes a out, written-elsewhere (masked stack_start (stack_mask depth) stack) (frame_start (depth + 1)) bytes a out)
      (elim (cases_lt a stack_start) [
        | inl low ↦ rw (masked-below stack_start (stack_mask (depth + 1)) stack a low, masked-below stack_start (stack_mask depth) stack a low) refl
        | inr high ↦
            let is : stack_start + (a - stack_start) ≡ a = omega arith in
            let apart' : (a - stack_start < 0x1000 * (depth + 1)) ⊎ (0x1000 * (depth + 1) + 512 ≤ a - stack_start) = elim apart [ inl l ↦ inl (omega arith) | inr r ↦ inr (omega arith) ] in
            rw is at (masked-same stack_start (stack_mask (depth + 1)) (stack_mask depth) stack (a - stack_start) (mask_apart depth (a - stack_start) apart'))
      ])
  | inr inside ↦
      let is : frame_start (depth + 1) + (a - frame_start (depth + 1)) ≡ a = omega arith in
      let within : a - frame_start (depth + 1) < length bytes = omega arith in
      (rw is at (written-here (masked stack_start (stack_mask (depth + 1)) stack) (frame_start (depth + 1)) bytes (a - frame_start (depth + 1)) within))
      ∙ sym (rw is at (written-here (masked stack_start (stack_mask depth) stack) (frame_start (depth + 1)) bytes (a - frame_start (depth + 1)) within))
]

-- a frame that is entered is empty
pub entered : (depth : ℕ) (stack : List ℕ) (packet : Packet) → length stack ≡ 0x7200 → depth < 7
    → written (memory_of depth stack packet) (frame_start (depth + 1)) empty_frame ≡ memory_of (depth + 1) (with_bytes stack (0x1000 * (depth + 1)) empty_frame) packet
unfolding memory_of
entered depth stack packet room deep =
    let long : length empty_frame ≡ 512 = length-empty_frame in
    let fits : 0x1000 * (depth + 1) + length empty_frame ≤ length stack = omega arith in
    let filled : masked stack_start (stack_mask (depth + 1)) (with_bytes stack (0x1000 * (depth + 1)) empty_frame) ≡ written (masked stack_start (stack_mask (depth + 1)) stack) (frame_start (depth + 1)) empty_frame =
    masked-write stack_start (stack_mask (depth + 1)) stack empty_frame (0x1000 * (depth + 1)) fits (λ i below. mask_inside (depth + 1) i (omega arith)) in
    let other : written (masked stack_start (stack_mask (depth + 1)) stack) (frame_start (depth + 1)) empty_frame ≡ written (masked stack_start (stack_mask depth) stack) (frame_start (depth + 1)) empty_frame =
    fun_ext (λ a. deeper_at depth stack empty_frame long a) in
    rw (filled, other) (sym (overlaid-write_upper (masked stack_start (stack_mask depth) stack) (block packet_start packet.buffer) (frame_start (depth + 1)) empty_frame))

left_at : (depth : ℕ) (stack : List ℕ) (packet : Packet) → IsPacket packet → (a : ℕ) → memory_of depth stack packet a ≡ without (memory_of (depth + 1) stack packet) (frame_start (depth + 1)) frame_size a
unfolding memory_of overlaid without
left_at depth stack packet is a = elim (cases_range a (frame_start (depth + 1)) 512) [
  | inl apart ↦
      let test : (nat_le (frame_start (depth + 1)) a && nat_lt a (frame_start (depth + 1) + 512)) ≡ false = elim apart [ inl l ↦ grind (arith, nat_tests) | inr r ↦ grind (arith, nat_tests) ] in
      let same : masked stack_start (stack_mask (depth + 1)) stack a ≡ masked stack_start (stack_mask depth) stack a =
      elim (cases_lt a stack_start) [
        | inl low ↦ masked-below stack_start (stack_mask (depth + 1)) stack a low ∙ sym (masked-below stack_start (stack_mask depth) stack a low)
        | inr high ↦
            let at : stack_start + (a - stack_start) ≡ a = omega arith in
            let apart' : (a - stack_start < 0x1000 * (depth + 1)) ⊎ (0x1000 * (depth + 1) + 512 ≤ a - stack_start) = elim apart [ inl l ↦ inl (omega arith) | inr r ↦ inr (omega arith) ] in
            rw at at (masked-same stack_start (stack_mask (depth + 1)) (stack_mask depth) stack (a - stack_start) (mask_apart depth (a - stack_start) apart'))
      ] in
      rw (test, same) refl
  | inr inside ↦
      let small : length packet.buffer ≤ 0x4000 = is.small in
      let test : (nat_le (frame_start (depth + 1)) a && nat_lt a (frame_start (depth + 1) + 512)) ≡ true = grind (arith, nat_tests) in
      let at : stack_start + (0x1000 * (depth + 1) + (a - frame_start (depth + 1))) ≡ a = omega arith in
      let hidden : masked stack_start (stack_mask depth) stack a ≡ None =
      rw at at (masked-hidden stack_start (stack_mask depth) stack (0x1000 * (depth + 1) + (a - frame_start (depth + 1))) (mask_outside depth (a - frame_start (depth + 1)) (omega arith))) in
      let past : block packet_start packet.buffer a ≡ None = block-elsewhere packet_start packet.buffer a (inr (omega arith)) in
      rw (test, hidden, past) refl
]

-- a frame that is left is gone
pub left : (depth : ℕ) (stack : List ℕ) (packet : Packet) → IsPacket packet → memory_of depth stack packet ≡ without (memory_of (depth + 1) stack packet) (frame_start (depth + 1)) frame_size
left depth stack packet is = fun_ext (λ a. left_at depth stack packet is a)

first_hidden : (k : ℕ) → 512 ≤ k → stack_mask 0 k ≡ false
first_hidden k above = elim (cases_lt k 0x1000) [
  | inl low ↦
      let same : k % 0x1000 ≡ k = omega arith in
      let test : nat_lt k 512 ≡ false = grind (arith, nat_tests) in
      rw (same, test) refl
  | inr high ↦ elim (cases_lt (k % 0x1000) 512) [
    | inl small ↦
        let deep : 0 < k / 0x1000 = omega arith in
        let test : nat_lt (k % 0x1000) 512 ≡ true = grind (arith, nat_tests) in
        let past : nat_le (k / 0x1000) 0 ≡ false = grind (arith, nat_tests) in
        rw (test, past) refl
    | inr large ↦ let test : nat_lt (k % 0x1000) 512 ≡ false = grind (arith, nat_tests) in rw test refl
  ]
]

first_frame_at : (stack : List ℕ) → length stack ≡ 0x7200 → (a : ℕ) → masked stack_start (stack_mask 0) (with_bytes stack 0 empty_frame) a ≡ block stack_start empty_frame a
first_frame_at stack room a =
    let long : length empty_frame ≡ 512 = length-empty_frame in
    elim (cases_range a stack_start 512) [
      | inl apart ↦ elim apart [
        | inl low ↦ masked-below stack_start (stack_mask 0) (with_bytes stack 0 empty_frame) a low ∙ sym (block-elsewhere stack_start empty_frame a (inl low))
        | inr high ↦
            let at : stack_start + (a - stack_start) ≡ a = omega arith in
            (rw at at (masked-hidden stack_start (stack_mask 0) (with_bytes stack 0 empty_frame) (a - stack_start) (first_hidden (a - stack_start) (omega arith))))
            ∙ sym (block-elsewhere stack_start empty_frame a (inr (omega arith)))
      ]
      | inr inside ↦
          let at : stack_start + (a - stack_start) ≡ a = omega arith in
          let seen : stack_mask 0 (a - stack_start) ≡ true = let e : 0x1000 * 0 + (a - stack_start) ≡ a - stack_start = omega arith in rw e at (mask_inside 0 (a - stack_start) (omega arith)) in
          let none : 0 + (a - stack_start) ≡ a - stack_start = omega arith in
          (rw at at (masked-shown stack_start (stack_mask 0) (with_bytes stack 0 empty_frame) (a - stack_start) seen))
          ∙ (rw none at (with_bytes-here stack empty_frame 0 (a - stack_start) (omega arith) (omega arith)))
          ∙ sym (rw at at (block-here stack_start empty_frame (a - stack_start)))
    ]

started_at : (stack : List ℕ) (packet : Packet) → length stack ≡ 0x7200 → (a : ℕ) → memory_of 0 (with_bytes stack 0 empty_frame) packet a ≡ written (block packet_start packet.buffer) (frame_start 0) empty_frame a
unfolding memory_of overlaid written
started_at stack packet room a = rw (first_frame_at stack room a) refl

-- the memory at the start of a run
pub started : (stack : List ℕ) (packet : Packet) → length stack ≡ 0x7200 → memory_of 0 (with_bytes stack 0 empty_frame) packet ≡ written (block packet_start packet.buffer) (frame_start 0) empty_frame
started stack packet room = fun_ext (λ a. started_at stack packet room a)
