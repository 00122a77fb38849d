-- Runs of a code, which end at the first instruction that ends them or faults, or as the budget is spent.
use Rattle.std.specs.Prelude.{◌≡◌, ◌<◌, ◌⊎◌, ◌==◌, ℕ, ℤ, zero, suc, ◌+◌, ◌%◌, ◌^◌, List, [], ◌∷◌, length, Option, Some, None, slice_get, slice_index, find, if◌then◌else◌}
use Rattle.bpf_insn.specs.declared.insn.Insn.{Insn}
use Rattle.bpf_insn.specs.declared.operation.Operation.{Operation}
use Rattle.bpf_insn.specs.Operation.{opcode_of}
use Rattle.xio.specs.declared.action.Action.{Action}
use Rattle.xio.specs.declared.action.Action.TheVariants.{Aborted, Drop, Pass, Tx, Redirect}
use Rattle.bpf_machine.specs.declared.environment.Env.{Env}
use Rattle.bpf_machine.specs.declared.ending.Cause.TheVariants as cause
use Rattle.xio.specs.Action.{number}
use Rattle.bpf_machine.specs.declared.ending.RunEnd.{RunEnd}
use Rattle.map_store.specs.Slots.{Map}
use Rattle.bpf_machine.specs.Instruction.{act, slot_at}
use Rattle.bpf_machine.specs.Next.{Next, Goes, Ends, Faults}
use Rattle.bpf_machine.specs.State.{State, Packet, packet_start}

-- The second slot of a wide load is no instruction.
abbrev pub whole : Option Insn → Option Insn
whole None = None
whole (Some insn) = if insn.half then None else Some insn

abbrev pub instruction_at : List Insn → ℤ → Option Insn
instruction_at code next = whole (slot_at code next)

-- the state's instruction leads to this
unfoldable pub Steps : List Insn → Env → State → Next → Type 0
Steps code env s next =
    (insn : Insn) × (operation : Operation) × (instruction_at code s.next ≡ Some insn) × (opcode_of operation ≡ insn.opcode)
    × (next ≡ act code env s insn operation)

-- so many instructions lead from a state to another one, and none of them ends the run
unfoldable pub Reaches : List Insn → Env → State → ℕ → State → Type 0
Reaches code env s zero t = t ≡ s
Reaches code env s (suc n) t = (before : State) × Reaches code env s n before × Steps code env before (Goes t)

-- How a run ends.
pub data Ending : Type 0 where
  Ended : State → ℕ → Ending
  Faulted : State → ℕ → Ending
  Spent : State → ℕ → Ending

-- The run of a budget ends so, with so many instructions counted. One that faults is counted; where there is no
-- instruction nothing is counted, and what would come after the budget isn't asked.
unfoldable pub Runs : List Insn → Env → State → ℕ → Ending → Type 0
Runs code env s budget (Ended t used) =
    (n : ℕ) × (before : State) × (used ≡ suc n) × (n < budget) × Reaches code env s n before × Steps code env before (Ends t)
Runs code env s budget (Faulted t used) =
    ((n : ℕ) × (before : State) × (used ≡ suc n) × (n < budget) × Reaches code env s n before × Steps code env before (Faults t))
    ⊎ ((used < budget) × Reaches code env s used t × (instruction_at code t.next ≡ None))
Runs code env s budget (Spent t used) = (used ≡ budget) × Reaches code env s used t

-- The run of a budget ends so, and in no other way.
pub record EndsIn (code : List Insn) (env : Env) (s : State) (limit : ℕ) (ending : Ending) : Type 0 where
  pub run : Runs code env s limit ending
  pub only : (other : Ending) → Runs code env s limit other → other ≡ ending

-- The action of a number (the kernel's `enum xdp_action`).
abbrev pub actions : List Action
actions = Aborted ∷ Drop ∷ Pass ∷ Tx ∷ Redirect ∷ []

abbrev pub action_of : ℕ → Option Action
action_of n = find (λ action. number action == n) actions

-- what an exit answers: the action in the low half of r0
unfoldable pub exit_answer : Option Action → ℕ → ℕ → RunEnd
exit_answer (Some action) target used = record { action = action; cause = cause.Exit; target = target; used = used }
exit_answer None target used = record { action = Aborted; cause = cause.BadAction; target = target; used = used }

unfoldable pub answer_of : Ending → RunEnd
answer_of (Ended t used) = exit_answer (action_of (slice_index t.registers 0 % 2 ^ 32)) t.target used
answer_of (Faulted t used) = record { action = Aborted; cause = cause.Fault; target = t.target; used = used }
answer_of (Spent t used) = record { action = Aborted; cause = cause.Budget; target = t.target; used = used }

abbrev pub last_state : Ending → State
last_state (Ended t used) = t
last_state (Faulted t used) = t
last_state (Spent t used) = t

-- the packet is what stands in a state's memory
pub record HoldsPacket (s : State) (packet : Packet) : Type 0 where
  pub data_start : s.data_start ≡ packet_start + packet.data_start
  pub data_end : s.data_end ≡ packet_start + packet.data_end
  pub buffer_end : s.buffer_end ≡ packet_start + length packet.buffer
  pub bytes : (k : ℕ) → k < length packet.buffer → s.memory (packet_start + k) ≡ slice_get packet.buffer k

-- how many instructions a run may count
abbrev pub budget : ℕ
budget = 65536

-- the answer, the maps and the packet of a run that ended so
pub record IsEnd (ending : Ending) (answer : RunEnd) (maps : List Map) (packet : Packet) : Type 0 where
  pub answered : answer ≡ answer_of ending
  pub mapped : (last_state ending).maps ≡ maps
  pub left : HoldsPacket (last_state ending) packet

-- A run of the code from a state gives this answer and leaves these maps and this packet.
pub record IsRun (code : List Insn) (env : Env) (s : State) (answer : RunEnd) (maps : List Map) (packet : Packet) : Type 0 where
  pub ending : Ending
  pub run : Runs code env s budget ending
  pub end : IsEnd ending answer maps packet
