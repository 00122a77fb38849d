-- The answer of a run.
use Rattle.std.proofs.Common.{◌≡◌, ℕ, List, refl, sym, ap, ◌∙◌, subst}
use Rattle.bpf_insn.specs.declared.insn.Insn.{Insn}
use Rattle.map_store.specs.Slots.{Map}
use Rattle.bpf_machine.specs.declared.ending.RunEnd.{RunEnd}
use Rattle.bpf_machine.specs.declared.environment.Env.{Env}
use Rattle.bpf_machine.specs.declared.flow.Halt.{Halt}
use Rattle.bpf_machine.specs.declared.flow.Halt.TheVariants as halt
use Rattle.bpf_machine.specs.Machine.{ending_of}
use Rattle.bpf_machine.specs.Run.{EndsIn, Ending, Runs, IsRun, IsEnd, HoldsPacket, answer_of, last_state}
use Rattle.bpf_machine.specs.State.{State, Packet}

last_is : (budget : ℕ) (end : Halt) (state : State) → last_state (ending_of budget end state) ≡ state
last_is budget (halt.Ended used) state = refl
last_is budget (halt.Faulted used) state = refl
last_is budget halt.Spent state = refl

-- a run that ended in a state answers with its maps and its packet
pub is_end : (end : Halt) (state : State) (answer : RunEnd) (maps : List Map) (packet : Packet) → answer ≡ answer_of (ending_of 65536 end state) → state.maps ≡ maps → HoldsPacket state packet → IsEnd (ending_of 65536 end state) answer maps packet
is_end end state answer maps packet answered mapped left =
    record { answered = answered; mapped = ap (λ (s : State). s.maps) (last_is 65536 end state) ∙ mapped; left = rw (last_is 65536 end state) left }

pub is_run : (code : List Insn) (env : Env) (s t : State) (ending : Ending) (answer : RunEnd) (maps : List Map) (packet : Packet) → s ≡ t → EndsIn code env s 65536 ending → IsEnd ending answer maps packet → IsRun code env t answer maps packet
is_run code env s t ending answer maps packet from ends end = record {
  ending = ending;
  run = subst (λ (u : State). Runs code env u 65536 ending) from ends.run;
  end = end;
}

pub is_only : (code : List Insn) (env : Env) (s t : State) (ending : Ending) (answer : RunEnd) (maps : List Map) (packet : Packet) → s ≡ t → EndsIn code env s 65536 ending → IsEnd ending answer maps packet
    → (other : Ending) → Runs code env t 65536 other → IsEnd other answer maps packet
is_only code env s t ending answer maps packet from ends end other run =
    let same : other ≡ ending = ends.only other (subst (λ (u : State). Runs code env u 65536 other) (sym from) run) in
    subst (λ (e : Ending). IsEnd e answer maps packet) (sym same) end
