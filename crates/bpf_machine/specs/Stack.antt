-- The frames of the stack.
use Rattle.std.specs.Prelude.{ℕ, ◌+◌, ◌-◌, ◌/◌, ◌%◌, nat_le, ◌&&◌, Bool, List, take, drop, Option, Some, None, if◌then◌else◌}
use Rattle.bpf_insn.specs.declared.operation.Size.{Size}
use Rattle.flat_memory.specs.Numbers.{size_of, number_in}
use Rattle.bpf_machine.specs.State.{stack_start, frame_size}

-- n bytes from an address on stand in one frame, whose number isn't above the depth
unfoldable pub in_frames : ℕ → ℕ → ℕ → Bool
in_frames depth a n =
    nat_le stack_start a && (nat_le ((a - stack_start) / 0x1000) depth && nat_le ((a - stack_start) % 0x1000 + n) frame_size)

-- the number of a size in the frames, whose bytes these are
abbrev pub stack_load : ℕ → List ℕ → ℕ → Size → Option ℕ
stack_load depth stack a size = if in_frames depth a (size_of size) then Some (number_in stack (a - stack_start) (size_of size)) else None

abbrev pub stack_bytes : ℕ → List ℕ → ℕ → ℕ → Option (List ℕ)
stack_bytes depth stack a n = if in_frames depth a n then Some (take n (drop (a - stack_start) stack)) else None
