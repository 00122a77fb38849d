-- Atomic operations.
use Rattle.std.proofs.Common.{◌≡◌, ℕ, Some, None, refl, sym, ap, subst, ◌∙◌}
use Rattle.std.specs.Prelude.{ℤ, pos}
use Rattle.bpf_insn.specs.declared.insn.Insn.{Insn}
use Rattle.bpf_insn.specs.declared.operation.Atomic.{Atomic}
use Rattle.bpf_insn.specs.declared.operation.Atomic.TheVariants as atomic
use Rattle.bpf_insn.specs.declared.operation.Operand.{Operand}
use Rattle.bpf_insn.specs.declared.operation.Size.{Size}
use Rattle.bpf_insn.specs.declared.operation.Width.{Width}
use Rattle.bpf_insn.specs.Operation.{atomic_code}
use Rattle.bpf_machine.specs.declared.environment.Env.{Env}
use Rattle.bpf_machine.specs.Access.{address_of, load_of, store_of}
use Rattle.bpf_machine.specs.Arithmetic.{operand_of}
use Rattle.bpf_machine.specs.Instruction.{atomic_of, atomic_act, exchange, after_exchange, exchanged, atomic_size, after_store, store_act}
use Rattle.bpf_machine.specs.Next.{Faults, register}
use Rattle.bpf_machine.specs.State.{State}

each_found : (op : Atomic) → atomic_of (pos (atomic_code op)) ≡ Some op
each_found atomic.Add = refl
each_found atomic.Or = refl
each_found atomic.And = refl
each_found atomic.Xor = refl
each_found atomic.FetchAdd = refl
each_found atomic.FetchOr = refl
each_found atomic.FetchAnd = refl
each_found atomic.FetchXor = refl
each_found atomic.Exchange = refl
each_found atomic.CompareExchange = refl

pub atomic_found : (imm : ℤ) (op : Atomic) → pos (atomic_code op) ≡ imm → atomic_of imm ≡ Some op
atomic_found imm op is = subst (λ (z : ℤ). atomic_of z ≡ Some op) is (each_found op)

pub atomic_fault : (width : Width) (env : Env) (s t : State) (insn : Insn) (op : Atomic) (old a new : ℕ) → atomic_of insn.imm ≡ Some op → a ≡ address_of (register s insn.target) insn.offset
    → load_of env s a (atomic_size width) ≡ Some old → new ≡ exchanged width op old (register s insn.source) (register s 0) → store_of s a (atomic_size width) new ≡ None → t ≡ s
    → atomic_act width env s insn (atomic_of insn.imm) ≡ Faults t
unfolding atomic_act exchange after_exchange
atomic_fault width env s t insn op old a new found at there is none same = rw (found, ← at, there, ← is, none) (ap Faults (sym same))

-- a write that isn't allowed
pub store_fault : (s t : State) (insn : Insn) (size : Size) (operand : Operand) (a value : ℕ) → a ≡ address_of (register s insn.target) insn.offset → value ≡ operand_of operand insn s.registers → store_of s a size value ≡ None → t ≡ s
    → store_act s insn size operand ≡ Faults t
unfolding after_store
store_fault s t insn size operand a value at is none same =
    ap (λ (x : ℕ). after_store s (store_of s x size (operand_of operand insn s.registers))) (sym at)
    ∙ ap (λ (x : ℕ). after_store s (store_of s a size x)) (sym is)
    ∙ ap (after_store s) none
    ∙ ap Faults (sym same)
