-- What each instruction does (RFC 9669).
use Rattle.std.specs.Prelude.{ℕ, ℤ, pos, negsuc, ◌+◌, ◌*◌, ◌%◌, ◌^◌, ◌-◌, ◌+ℤ◌, ◌==◌, nat_lt, if◌then◌else◌, List, [], ◌∷◌, ◌++◌, length, take, drop, Option, Some, None, slice_get, slice_set, find, unsigned_abs}
use Rattle.std.specs.Int.{w32, cast_unsigned}
use Rattle.bpf_alu.specs.declared.arithmetic.Op.TheVariants as op
use Rattle.bpf_alu.specs.Numbers.{extend}
use Rattle.bpf_alu.specs.Order.{swap}
use Rattle.bpf_insn.specs.declared.insn.Insn.{Insn}
use Rattle.bpf_alu.specs.declared.comparison.Test.{Test}
use Rattle.bpf_insn.specs.declared.operation.Arithmetic.{Arithmetic}
use Rattle.bpf_insn.specs.declared.operation.Operand.{Operand}
use Rattle.bpf_insn.specs.declared.operation.Atomic.{Atomic}
use Rattle.bpf_insn.specs.declared.operation.Atomic.TheVariants as atomic
use Rattle.bpf_insn.specs.declared.operation.Distance.TheVariants as distance
use Rattle.bpf_insn.specs.declared.operation.Narrow.{Narrow}
use Rattle.bpf_insn.specs.declared.operation.Narrow.TheVariants as narrow
use Rattle.bpf_insn.specs.declared.operation.Operation.{Operation}
use Rattle.bpf_insn.specs.declared.operation.Operation.TheVariants.{Alu, Neg, End, Jump, Branch, Call, Exit, Load, LoadSigned, Store, LoadWide}
use Rattle.bpf_insn.specs.declared.operation.Operation.TheVariants as operation
use Rattle.bpf_insn.specs.declared.operation.Size.{Size}
use Rattle.bpf_insn.specs.declared.operation.Size.TheVariants as size
use Rattle.bpf_insn.specs.declared.operation.Width.{Width}
use Rattle.bpf_insn.specs.declared.operation.Width.TheVariants.{Bits32, Bits64}
use Rattle.bpf_insn.specs.Operation.{atomic_code}
use Rattle.flat_memory.specs.Memory.{written, without}
use Rattle.flat_memory.specs.Numbers.{size_of}
use Rattle.bpf_machine.specs.declared.environment.Env.{Env}
use Rattle.bpf_machine.specs.declared.scratch.Caller.{Caller}
use Rattle.bpf_machine.specs.Access.{address_of, load_of, store_of}
use Rattle.bpf_machine.specs.Arithmetic.{operand_of, op_of, second_of, operated, holds}
use Rattle.bpf_machine.specs.Helpers.{helper_of, helper_act}
use Rattle.bpf_machine.specs.Next.{Next, Goes, Ends, Faults, register, put, jumped, advanced}
use Rattle.bpf_machine.specs.State.{State, frame_start, frame_size, empty_frame}

-- the instruction goes on behind itself with a value in a register, or faults where there is none
unfoldable pub after_load : State → ℕ → Option ℕ → Next
after_load s n None = Faults s
after_load s n (Some value) = Goes (advanced (put s n value))

unfoldable pub after_store : State → Option State → Next
after_store s None = Faults s
after_store s (Some t) = Goes (advanced t)

-- §5.2: what a load that extends the sign gives
abbrev pub full_size : Narrow → Size
full_size narrow.Byte = size.Byte
full_size narrow.Half = size.Half
full_size narrow.Word = size.Word

abbrev pub sign_extended : Narrow → Option ℕ → Option ℕ
sign_extended size None = None
sign_extended size (Some value) = Some (extend value (8 * size_of (full_size size)))

-- §5.3: the operation of an immediate
abbrev pub atomics : List Atomic
atomics =
    atomic.Add ∷ atomic.Or ∷ atomic.And ∷ atomic.Xor ∷ atomic.FetchAdd ∷ atomic.FetchOr ∷ atomic.FetchAnd ∷ atomic.FetchXor ∷ atomic.Exchange ∷ atomic.CompareExchange ∷ []

abbrev pub atomic_of : ℤ → Option Atomic
atomic_of imm = find (λ a. atomic_code a == cast_unsigned w32 imm) atomics

abbrev pub atomic_size : Width → Size
atomic_size Bits32 = size.Word
atomic_size Bits64 = size.Double

abbrev pub low_part : Width → ℕ → ℕ
low_part Bits32 value = value % 2 ^ 32
low_part Bits64 value = value

-- §5.3: what is written, of the value there, the source and r0
abbrev pub exchanged : Width → Atomic → ℕ → ℕ → ℕ → ℕ
exchanged width atomic.Add old source r0 = operated width op.Add old source
exchanged width atomic.Or old source r0 = operated width op.Or old source
exchanged width atomic.And old source r0 = operated width op.And old source
exchanged width atomic.Xor old source r0 = operated width op.Xor old source
exchanged width atomic.FetchAdd old source r0 = operated width op.Add old source
exchanged width atomic.FetchOr old source r0 = operated width op.Or old source
exchanged width atomic.FetchAnd old source r0 = operated width op.And old source
exchanged width atomic.FetchXor old source r0 = operated width op.Xor old source
exchanged width atomic.Exchange old source r0 = source
exchanged width atomic.CompareExchange old source r0 = if old == low_part width r0 then source else old

-- §5.3: the value that was there goes into the source or into r0, or is let go
abbrev pub fetched : Atomic → ℕ → ℕ → List ℕ → List ℕ
fetched atomic.Add source old registers = registers
fetched atomic.Or source old registers = registers
fetched atomic.And source old registers = registers
fetched atomic.Xor source old registers = registers
fetched atomic.FetchAdd source old registers = slice_set registers source old
fetched atomic.FetchOr source old registers = slice_set registers source old
fetched atomic.FetchAnd source old registers = slice_set registers source old
fetched atomic.FetchXor source old registers = slice_set registers source old
fetched atomic.Exchange source old registers = slice_set registers source old
fetched atomic.CompareExchange source old registers = slice_set registers 0 old

unfoldable pub after_exchange : State → Atomic → ℕ → ℕ → Option State → Next
after_exchange s op source old None = Faults s
after_exchange s op source old (Some t) = Goes (advanced (record t { registers = fetched op source old t.registers }))

unfoldable pub exchange : Width → State → Insn → ℕ → Atomic → Option ℕ → Next
exchange width s insn a op None = Faults s
exchange width s insn a op (Some old) =
    after_exchange s op insn.source old (store_of s a (atomic_size width) (exchanged width op old (register s insn.source) (register s 0)))

unfoldable pub atomic_act : Width → Env → State → Insn → Option Atomic → Next
atomic_act width env s insn None = Faults s
atomic_act width env s insn (Some op) =
    let a = address_of (register s insn.target) insn.offset in
    exchange width s insn a op (load_of env s a (atomic_size width))

-- §4.3.2: a call of a function of the program, which has a frame of the stack of its own, empty at first. r6 to r10 are
-- kept for the caller. There are eight frames.
unfoldable pub call_local : State → ℤ → Next
call_local s distance =
    let depth = length s.callers + 1 in
    if nat_lt depth 8 then
    Goes (record s {
      next = (s.next +ℤ pos 1) +ℤ distance;
      registers = slice_set s.registers 10 (frame_start depth + frame_size);
      callers = s.callers ++ record { call = unsigned_abs s.next; kept = drop 6 s.registers } ∷ [];
      memory = written s.memory (frame_start depth) empty_frame;
    })
    else Faults s

-- §4.3.2: the last caller goes on with its r6 to r10; where there is none, the run ends
unfoldable pub exit_to : State → Option Caller → Next
exit_to s None = Ends s
exit_to s (Some caller) =
    Goes (record s {
      next = pos caller.call +ℤ pos 1;
      registers = take 6 s.registers ++ caller.kept;
      callers = take (length s.callers - 1) s.callers;
      memory = without s.memory (frame_start (length s.callers)) frame_size;
    })

abbrev pub exit_of : State → Next
exit_of s = exit_to s (slice_get s.callers (length s.callers - 1))

-- §5.4: the number whose halves are the immediates of two slots, the low one first
unfoldable pub wide_act : State → Insn → Option Insn → Next
wide_act s insn None = Faults s
wide_act s insn (Some half) =
    Goes (record s {
      next = s.next +ℤ pos 2;
      registers = slice_set s.registers insn.target (cast_unsigned w32 insn.imm + 2 ^ 32 * cast_unsigned w32 half.imm);
    })

-- the instruction of a slot
abbrev pub slot_at : List Insn → ℤ → Option Insn
slot_at code (pos n) = slice_get code n
slot_at code (negsuc n) = None

abbrev pub alu_act : State → Insn → Width → Arithmetic → Operand → Next
alu_act s insn width op operand =
    Goes (advanced (put s insn.target (operated width (op_of op insn.offset) (register s insn.target)
    (second_of op insn.offset (operand_of operand insn s.registers)))))

abbrev pub branch_act : State → Insn → Width → Test → Operand → Next
branch_act s insn width test operand =
    Goes (if holds width test (register s insn.target) (operand_of operand insn s.registers) then jumped s insn.offset else advanced s)

abbrev pub load_act : Env → State → Insn → Size → Next
load_act env s insn size = after_load s insn.target (load_of env s (address_of (register s insn.source) insn.offset) size)

abbrev pub load_signed_act : Env → State → Insn → Narrow → Next
load_signed_act env s insn size =
    after_load s insn.target (sign_extended size (load_of env s (address_of (register s insn.source) insn.offset) (full_size size)))

abbrev pub store_act : State → Insn → Size → Operand → Next
store_act s insn size operand =
    after_store s (store_of s (address_of (register s insn.target) insn.offset) size (operand_of operand insn s.registers))

-- §4.3.1, §4.3.2: the source says whether a helper or a function of the program is called
abbrev pub call_act : Env → State → Insn → Next
call_act env s insn = if insn.source == 1 then call_local s insn.imm else helper_act env s (helper_of insn.imm)

-- What an instruction does in a state whose next slot it stands in.
unfoldable pub act : List Insn → Env → State → Insn → Operation → Next
act code env s insn (Alu width op operand) = alu_act s insn width op operand
act code env s insn (Neg width) = Goes (advanced (put s insn.target (operated width op.Neg (register s insn.target) 0)))
act code env s insn (End order) = Goes (advanced (put s insn.target (swap order (register s insn.target) (cast_unsigned w32 insn.imm))))
act code env s insn (Jump distance.Offset) = Goes (jumped s insn.offset)
act code env s insn (Jump distance.Imm) = Goes (jumped s insn.imm)
act code env s insn (Branch width test operand) = branch_act s insn width test operand
act code env s insn Call = call_act env s insn
act code env s insn Exit = exit_of s
act code env s insn (Load size) = load_act env s insn size
act code env s insn (LoadSigned size) = load_signed_act env s insn size
act code env s insn (Store size operand) = store_act s insn size operand
act code env s insn (operation.Atomic width) = atomic_act width env s insn (atomic_of insn.imm)
act code env s insn LoadWide = wide_act s insn (slot_at code (s.next +ℤ pos 1))
