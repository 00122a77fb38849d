-- What the instruction in a slot leads to.
use Rattle.std.proofs.Common.{◌≡◌, ℕ, List, Some, None, true, false, refl, sym, ap, ◌∙◌, slice_get, arith}
use Rattle.std.specs.Prelude.{ℤ, pos, negsuc, ◌<ℤ◌, ◌≤ℤ◌}
use Rattle.std.proofs.Math.IntN.{nat_abs}
use Rattle.std.proofs.lemmas.Int.{ints}
use Rattle.bpf_insn.specs.declared.insn.Insn.{Insn}
use Rattle.bpf_insn.specs.declared.operation.Operation.{Operation}
use Rattle.bpf_insn.specs.Operation.{opcode_of}
use Rattle.bpf_machine.specs.declared.environment.Env.{Env}
use Rattle.bpf_machine.specs.Instruction.{act}
use Rattle.bpf_machine.specs.Next.{Next}
use Rattle.bpf_machine.specs.Run.{Steps, instruction_at}
use Rattle.bpf_machine.specs.State.{State}

some_insn : (a b : Insn) → Some a ≡ Some b → a ≡ b
some_insn a b same = cc

pub pos_abs : (z : ℤ) → pos 0 ≤ℤ z → z ≡ pos (nat_abs z)
pos_abs (pos n) above = refl
pos_abs (negsuc n) above = absurd (omega (arith, ints))

pub at_negative : (code : List Insn) (next : ℤ) → next <ℤ pos 0 → instruction_at code next ≡ None
at_negative code (pos n) below = absurd (omega (arith, ints))
at_negative code (negsuc n) below = refl

pub at_none : (code : List Insn) (next : ℤ) (k : ℕ) → next ≡ pos k → slice_get code k ≡ None → instruction_at code next ≡ None
at_none code next k at is = rw (at, is) refl

pub at_half : (code : List Insn) (next : ℤ) (k : ℕ) (insn : Insn) → next ≡ pos k → slice_get code k ≡ Some insn → insn.half ≡ true → instruction_at code next ≡ None
at_half code next k insn at is half = rw (at, is, half) refl

pub at_slot : (code : List Insn) (next : ℤ) (k : ℕ) (insn : Insn) → next ≡ pos k → slice_get code k ≡ Some insn → insn.half ≡ false → instruction_at code next ≡ Some insn
at_slot code next k insn at is half = rw (at, is, half) refl

pub steps_to : (code : List Insn) (env : Env) (s : State) (insn : Insn) (operation : Operation) (outcome : Next) → instruction_at code s.next ≡ Some insn → opcode_of operation ≡ insn.opcode → act code env s insn operation ≡ outcome
    → Steps code env s outcome
unfolding Steps
steps_to code env s insn operation outcome at is to = (insn, operation, at, is, sym to)

pub steps_only : (code : List Insn) (env : Env) (s : State) (insn : Insn) (outcome : Next) → instruction_at code s.next ≡ Some insn
    → ((operation : Operation) → opcode_of operation ≡ insn.opcode → act code env s insn operation ≡ outcome) → (other : Next) → Steps code env s other → other ≡ outcome
unfolding Steps
steps_only code env s insn outcome at acts other steps =
    let same : steps.0 ≡ insn = some_insn steps.0 insn (sym steps.2 ∙ at) in
    let opcode : opcode_of steps.1 ≡ insn.opcode = steps.3 ∙ ap (λ (i : Insn). i.opcode) same in
    steps.4 ∙ ap (λ (i : Insn). act code env s i steps.1) same ∙ acts steps.1 opcode
