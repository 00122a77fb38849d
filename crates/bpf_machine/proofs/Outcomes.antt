-- What a run gives is its outcome.
use Rattle.std.proofs.Common.{◌≡◌, ℕ, zero, suc, ◌+◌, ◌-◌, ◌<◌, List, length, take, drop, Option, Some, None, slice_get, slice_index, unwrap_or, refl, sym, ap, ◌∙◌, ◌⊎◌, inl, inr, subst, arith}
use Rattle.std.specs.Prelude.{Bool, true, false, ℤ, pos, negsuc, if◌then◌else◌}
use Rattle.std.proofs.Common.{zero-add}
use Rattle.std.proofs.lemmas.List.{take_all}
use Rattle.std.proofs.lemmas.Option.{gets}
use Rattle.bpf_insn.specs.Code.{IsCode}
use Rattle.bpf_insn.specs.Form.{IsListed}
use Rattle.bpf_insn.specs.declared.insn.Insn.{Insn}
use Rattle.bpf_insn.proofs.Operations.{has_operation}
use Rattle.flat_memory.specs.Memory.{bytes_at}
use Rattle.flat_memory.proofs.Laws.{bytes_at-bytes}
use Rattle.map_store.specs.Slots.{Map}
use Rattle.bpf_machine.specs.declared.ending.RunEnd.{RunEnd}
use Rattle.bpf_machine.specs.declared.environment.Env.{Env}
use Rattle.bpf_machine.specs.Instruction.{act}
use Rattle.bpf_machine.specs.Next.{Next, Goes, Ends, Faults}
use Rattle.bpf_machine.specs.Outcome.{Outcome, ended_by, ending_from, outcome_of, packet_in, step_of}
use Rattle.bpf_machine.specs.Run.{Ending, HoldsPacket, IsEnd, Reaches, Runs, Steps, answer_of, budget, instruction_at, last_state, whole}
use Rattle.bpf_machine.specs.State.{Packet, State, packet_start, start}
use Rattle.bpf_machine.proofs.Listed.{code_listed}
use Rattle.bpf_machine.proofs.Runs.{ended, faulted, nowhere, reaches_more, reaches_none}
use Rattle.bpf_machine.proofs.Steps.{steps_to}

cases_option : (o : Option Insn) → (o ≡ None) ⊎ ((insn : Insn) × (o ≡ Some insn))
cases_option None = inl refl
cases_option (Some insn) = inr (insn, refl)

-- a slot with an instruction, which is no second half
record IsWhole (o : Option Insn) (insn : Insn) : Type 0 where
  slot : o ≡ Some insn
  whole : insn.half ≡ false

same_insn : (i insn : Insn) → Some i ≡ Some insn → i ≡ insn
same_insn i insn same = cc

whole_case : (i insn : Insn) (half : Bool) → i.half ≡ half → (if half then None else Some i) ≡ Some insn → IsWhole (Some i) insn
whole_case i insn true at is = absurd cc
whole_case i insn false at is = record { slot = is; whole = subst (λ (x : Insn). x.half ≡ false) (same_insn i insn is) at }

whole_slot : (o : Option Insn) (insn : Insn) → whole o ≡ Some insn → IsWhole o insn
whole_slot None insn is = absurd cc
whole_slot (Some i) insn is = whole_case i insn i.half refl is

instruction_listed : (code : List Insn) (next : ℤ) (insn : Insn) → IsCode code → instruction_at code next ≡ Some insn → IsListed insn
instruction_listed code (pos k) insn is_code at =
    let slot = whole_slot (slice_get code k) insn at in
    code_listed code k insn is_code slot.slot slot.whole
instruction_listed code (negsuc k) insn is_code at = absurd cc

step_none : (code : List Insn) (env : Env) (t : State) → instruction_at code t.next ≡ None → step_of code env t ≡ None
unfolding step_of
step_none code env t none = rw none refl

-- the step from a state
record HasStep (code : List Insn) (env : Env) (t : State) : Type 0 where
  next : Next
  is : step_of code env t ≡ Some next
  steps : Steps code env t next

step_some : (code : List Insn) (env : Env) (t : State) (insn : Insn) → IsCode code → instruction_at code t.next ≡ Some insn → HasStep code env t
unfolding step_of
step_some code env t insn is_code at =
    let has = has_operation insn (instruction_listed code t.next insn is_code at) in
    record {
      next = act code env t insn has.operation;
      is = rw (at, has.found) refl;
      steps = steps_to code env t insn has.operation (act code env t insn has.operation) at has.opcode refl;
    }

-- a run by its next step, where the rest is a run
step_runs : (code : List Insn) (env : Env) (s t : State) (used limit : ℕ) (rest : State → Ending) → Reaches code env s used t → used < limit
    → ((u : State) → Reaches code env s (used + 1) u → Runs code env s limit (rest u)) → (next : Next) → Steps code env t next
    → Runs code env s limit (ended_by t used (Some next) rest)
step_runs code env s t used limit rest reached below later (Goes u) steps = later u (reaches_more code env s t u used reached steps)
step_runs code env s t used limit rest reached below later (Ends u) steps = ended code env s t u used limit reached below steps
step_runs code env s t used limit rest reached below later (Faults u) steps = faulted code env s t u used limit reached below steps

runs_from : (code : List Insn) (env : Env) (s : State) (left used limit : ℕ) (t : State) → IsCode code → used + left ≡ limit → Reaches code env s used t
    → Runs code env s limit (ending_from code env left used t)
unfolding ending_from Runs
runs_from code env s zero used limit t is_code all reached = (omega arith, reached)
runs_from code env s (suc left) used limit t is_code all reached =
    let below : used < limit = omega arith in
    elim (cases_option (instruction_at code t.next)) [
      | inl none ↦ rw (step_none code env t none) (nowhere code env s t used limit reached below none)
      | inr some ↦
          let step = step_some code env t some.0 is_code some.1 in
          rw step.is (step_runs code env s t used limit (λ u. ending_from code env left (used + 1) u) reached below
          (λ u further. runs_from code env s left (used + 1) limit u is_code (omega arith) further) step.next step.steps)
    ]

runs : (code : List Insn) (env : Env) (s : State) (limit : ℕ) → IsCode code → Runs code env s limit (ending_from code env limit 0 s)
runs code env s limit is_code = runs_from code env s limit 0 limit s is_code (omega arith) (reaches_none code env s)

byte_is : (bytes : List ℕ) (k : ℕ) → k < length bytes → unwrap_or (slice_get bytes k) 0 ≡ slice_index bytes k
byte_is bytes k below = grind (arith, gets)

same_packet : (b c : List ℕ) (i j k l : ℕ) → b ≡ c → i ≡ j → k ≡ l
    → record { buffer = b; data_start = i; data_end = k } ≡ (let p : Packet = record { buffer = c; data_start = j; data_end = l } in p)
same_packet b c i j k l buffer start end = rw (buffer, start, end) refl

held : (s : State) (packet : Packet) → HoldsPacket s packet → packet_in s ≡ packet
unfolding packet_in
held s packet holds =
    let long : s.buffer_end - packet_start ≡ length packet.buffer = omega (arith, holds.buffer_end) in
    let bytes : bytes_at s.memory packet_start (length packet.buffer) ≡ take (length packet.buffer) (drop 0 packet.buffer) =
    bytes_at-bytes (length packet.buffer) packet_start 0 s.memory packet.buffer (omega arith) (λ i below. rw (holds.bytes i below, zero-add) (byte_is packet.buffer i below)) in
    same_packet _ packet.buffer _ packet.data_start _ packet.data_end
    (ap (λ n. bytes_at s.memory packet_start n) long ∙ bytes ∙ take_all (length packet.buffer) packet.buffer (omega arith))
    (omega (arith, holds.data_start))
    (omega (arith, holds.data_end))

same_outcome : (a b : RunEnd) (m n : List Map) (p q : Packet) → a ≡ b → m ≡ n → p ≡ q
    → record { answer = a; maps = m; packet = p } ≡ (let o : Outcome = record { answer = b; maps = n; packet = q } in o)
same_outcome a b m n p q answer maps packet = rw (answer, maps, packet) refl

-- where each run ends with this answer, these maps and this packet, they are the outcome
pub outcome_is : (code : List Insn) (env : Env) (maps left : List Map) (packet after : Packet) (answer : RunEnd) → IsCode code
    → ((ending : Ending) → Runs code env (start maps packet) budget ending → IsEnd ending answer left after)
    → outcome_of code env maps packet ≡ record { answer = answer; maps = left; packet = after }
unfolding outcome_of
outcome_is code env maps left packet after answer is_code only =
    let ending : Ending = ending_from code env budget 0 (start maps packet) in
    let is : IsEnd ending answer left after = only ending (runs code env (start maps packet) budget is_code) in
    same_outcome (answer_of ending) answer (last_state ending).maps left (packet_in (last_state ending)) after
    (sym is.answered) is.mapped (held (last_state ending) after is.left)
