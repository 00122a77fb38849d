-- What an instruction leads to.
use Rattle.std.specs.Prelude.{ℕ, ℤ, pos, ◌+ℤ◌, slice_set, slice_index}
use Rattle.bpf_machine.specs.State.{State}

-- the state after it, the end of the run, or a fault, which changes nothing
pub data Next : Type 0 where
  Goes : State → Next
  Ends : State → Next
  Faults : State → Next

abbrev pub register : State → ℕ → ℕ
register s n = slice_index s.registers n

abbrev pub put : State → ℕ → ℕ → State
put s n value = record s { registers = slice_set s.registers n value }

-- so many slots further than the next one
abbrev pub jumped : State → ℤ → State
jumped s distance = record s { next = (s.next +ℤ pos 1) +ℤ distance }

abbrev pub advanced : State → State
advanced s = record s { next = s.next +ℤ pos 1 }
