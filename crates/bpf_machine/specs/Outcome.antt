-- A run as a function of where it starts.
use Rattle.std.specs.Prelude.{ℕ, zero, suc, ◌+◌, ◌-◌, List, Option, Some, None, option_map, option_and_then}
use Rattle.bpf_insn.specs.declared.insn.Insn.{Insn}
use Rattle.bpf_insn.specs.Operations.{operation_of}
use Rattle.flat_memory.specs.Memory.{bytes_at}
use Rattle.map_store.specs.Slots.{Map}
use Rattle.bpf_machine.specs.declared.ending.RunEnd.{RunEnd}
use Rattle.bpf_machine.specs.declared.environment.Env.{Env}
use Rattle.bpf_machine.specs.Instruction.{act}
use Rattle.bpf_machine.specs.Next.{Next, Goes, Ends, Faults}
use Rattle.bpf_machine.specs.Run.{Ending, Ended, Faulted, Spent, answer_of, budget, instruction_at, last_state}
use Rattle.bpf_machine.specs.State.{State, Packet, packet_start, start}

-- what the instruction in the next slot leads to, or none where no instruction stands there
abbrev pub acted : List Insn → Env → State → Insn → Option Next
acted code env s insn = option_map (act code env s insn) (operation_of insn.opcode)

unfoldable pub step_of : List Insn → Env → State → Option Next
step_of code env s = option_and_then (acted code env s) (instruction_at code s.next)

-- the end that a step makes behind so many instructions, or else that of the rest of the run
abbrev pub ended_by : State → ℕ → Option Next → (State → Ending) → Ending
ended_by s used None rest = Faulted s used
ended_by s used (Some (Goes t)) rest = rest t
ended_by s used (Some (Ends t)) rest = Ended t (used + 1)
ended_by s used (Some (Faults t)) rest = Faulted t (used + 1)

-- how a run ends that may count so many instructions more, behind so many
unfoldable pub ending_from : List Insn → Env → ℕ → ℕ → State → Ending
ending_from code env zero used s = Spent s used
ending_from code env (suc left) used s =
    ended_by s used (step_of code env s) (λ t. ending_from code env left (used + 1) t)

-- the packet that stands in a state's memory
unfoldable pub packet_in : State → Packet
packet_in s = record {
  buffer = bytes_at s.memory packet_start (s.buffer_end - packet_start);
  data_start = s.data_start - packet_start;
  data_end = s.data_end - packet_start;
}

-- a run's answer, and the maps and the packet that it leaves
pub record Outcome : Type 0 where
  pub answer : RunEnd
  pub maps : List Map
  pub packet : Packet

abbrev pub given_by : Ending → Outcome
given_by ending = record {
  answer = answer_of ending;
  maps = (last_state ending).maps;
  packet = packet_in (last_state ending);
}

-- of a code with these maps on this packet
unfoldable pub outcome_of : List Insn → Env → List Map → Packet → Outcome
outcome_of code env maps packet = given_by (ending_from code env budget 0 (start maps packet))
