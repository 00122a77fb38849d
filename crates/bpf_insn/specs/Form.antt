-- What the fields of a slot may be, for each operation.
use Rattle.std.specs.Prelude.{◌≡◌, ◌⊎◌, ◌≤◌, ◌==◌, ℕ, ℤ, pos, List, length, drop, if◌then◌else◌, IsBitSet, ⊤}
use Rattle.bpf_insn.specs.declared.insn.Insn.{Insn}
use Rattle.bpf_insn.specs.declared.operation.Arithmetic.{Arithmetic}
use Rattle.bpf_insn.specs.declared.operation.Arithmetic.TheVariants as arithmetic
use Rattle.bpf_insn.specs.declared.operation.Atomic.{Atomic}
use Rattle.bpf_insn.specs.declared.operation.Distance.TheVariants as distance
use Rattle.bpf_insn.specs.declared.operation.Operand.{Operand}
use Rattle.bpf_insn.specs.declared.operation.Operand.TheVariants.{Imm, Register}
use Rattle.bpf_insn.specs.declared.operation.Operation.{Operation}
use Rattle.bpf_insn.specs.declared.operation.Operation.TheVariants.{Alu, Neg, End, Jump, Branch, Call, Exit, Load, LoadSigned, Store, LoadWide}
use Rattle.bpf_insn.specs.declared.operation.Operation.TheVariants as operation
use Rattle.bpf_insn.specs.declared.operation.Width.{Width}
use Rattle.bpf_insn.specs.declared.operation.Width.TheVariants.{Bits32, Bits64}
use Rattle.bpf_insn.specs.declared.table.Form.{Form}
use Rattle.bpf_insn.specs.declared.table.ImmRule.{ImmRule}
use Rattle.bpf_insn.specs.declared.table.ImmRule.TheVariants as imms
use Rattle.bpf_insn.specs.declared.table.OffsetRule.{OffsetRule}
use Rattle.bpf_insn.specs.declared.table.OffsetRule.TheVariants.{Zero, Any, ZeroOrOne, Moves16, Moves32}
use Rattle.bpf_insn.specs.Insn.{slot}
use Rattle.bpf_insn.specs.Operation.{opcode_of, atomic_code, IsSourceWritten}

-- Masks of registers: a field that is unused is 0, r0 to r9 may be written, r0 to r10 read.
abbrev pub unused : ℕ
unused = 0x001

abbrev pub written : ℕ
written = 0x3ff

abbrev pub read : ℕ
read = 0x7ff

-- RFC 9669 §4.1: offset 1 makes a division signed, and an offset of MOV says how many bits are extended.
abbrev pub arithmetic_offsets : Width → Arithmetic → Operand → OffsetRule
arithmetic_offsets width arithmetic.Div operand = ZeroOrOne
arithmetic_offsets width arithmetic.Mod operand = ZeroOrOne
arithmetic_offsets Bits32 arithmetic.Mov Register = Moves16
arithmetic_offsets Bits64 arithmetic.Mov Register = Moves32
arithmetic_offsets width op operand = Zero

pub record Fields : Type 0 where
  pub targets : ℕ
  pub sources : ℕ
  pub offsets : OffsetRule
  pub imms : ImmRule

abbrev pub fields : ℕ → ℕ → OffsetRule → ImmRule → Fields
fields targets sources offsets imms = record { targets = targets; sources = sources; offsets = offsets; imms = imms }

-- RFC 9669 §4 and §5: the registers, the offsets and the immediates of each operation. A call has 0 as its source for
-- a helper and 1 for a function of the program.
abbrev pub fields_of : Operation → Fields
fields_of (Alu width op Imm) = fields written unused (arithmetic_offsets width op Imm) imms.Any
fields_of (Alu width op Register) = fields written read (arithmetic_offsets width op Register) imms.Zero
fields_of (Neg width) = fields written unused Zero imms.Zero
fields_of (End order) = fields written unused Zero imms.Swap
fields_of (Jump distance.Offset) = fields unused unused Any imms.Zero
fields_of (Jump distance.Imm) = fields unused unused Zero imms.Any
fields_of (Branch width test Imm) = fields read unused Any imms.Any
fields_of (Branch width test Register) = fields read read Any imms.Zero
fields_of Call = fields unused 0x003 Zero imms.Any
fields_of Exit = fields unused unused Zero imms.Zero
fields_of (Load size) = fields written read Any imms.Zero
fields_of (LoadSigned size) = fields written read Any imms.Zero
fields_of (Store size Imm) = fields read unused Any imms.Any
fields_of (Store size Register) = fields read read Any imms.Zero
fields_of (operation.Atomic width) = fields read read Any imms.Atomic
fields_of LoadWide = fields written unused Zero imms.Any

abbrev pub form_of : Operation → Form
form_of operation =
    let f = fields_of operation in
    record { opcode = opcode_of operation; targets = f.targets; sources = f.sources; offsets = f.offsets; imms = f.imms }

-- a row of the table
abbrev pub IsForm : Form → Type 0
IsForm form = (operation : Operation) × (form ≡ form_of operation)

-- RFC 9669 §3.2: the second slot of a wide load, which has an immediate alone
abbrev pub half_form : Form
half_form = record { opcode = 0; targets = unused; sources = unused; offsets = Zero; imms = imms.Any }

abbrev pub AllowsOffset : OffsetRule → ℤ → Type 0
AllowsOffset Zero z = z ≡ pos 0
AllowsOffset Any z = ⊤
AllowsOffset ZeroOrOne z = (z ≡ pos 0) ⊎ (z ≡ pos 1)
AllowsOffset Moves16 z = (z ≡ pos 0) ⊎ ((z ≡ pos 8) ⊎ (z ≡ pos 16))
AllowsOffset Moves32 z = (z ≡ pos 0) ⊎ ((z ≡ pos 8) ⊎ ((z ≡ pos 16) ⊎ (z ≡ pos 32)))

-- RFC 9669 §5.3: the immediate of an atomic operation is its code, and a source that is written isn't r10.
pub record IsAtomic (insn : Insn) : Type 0 where
  pub op : Atomic
  pub code : insn.imm ≡ pos (atomic_code op)
  pub source : IsSourceWritten op → insn.source ≤ 9

abbrev pub AllowsImm : ImmRule → Insn → Type 0
AllowsImm imms.Zero insn = insn.imm ≡ pos 0
AllowsImm imms.Any insn = ⊤
AllowsImm imms.Swap insn = (insn.imm ≡ pos 16) ⊎ ((insn.imm ≡ pos 32) ⊎ (insn.imm ≡ pos 64))
AllowsImm imms.Atomic insn = IsAtomic insn

-- the fields of a slot are as the form says
pub record Fits (form : Form) (insn : Insn) : Type 0 where
  pub opcode : insn.opcode ≡ form.opcode
  pub target : IsBitSet form.targets insn.target
  pub source : IsBitSet form.sources insn.source
  pub offset : AllowsOffset form.offsets insn.offset
  pub imm : AllowsImm form.imms insn

-- some row of the table fits
abbrev pub IsListed : Insn → Type 0
IsListed insn = (operation : Operation) × Fits (form_of operation) insn

-- RFC 9669 §3.2: the opcode of the one instruction that has two slots
abbrev pub wide_load : ℕ
wide_load = opcode_of LoadWide

-- what a form takes: a slot of 8 bytes, and for a wide load the next slot too
pub record Takes (form : Form) (bytes : List ℕ) : Type 0 where
  pub size : length bytes ≡ (if form.opcode == wide_load then 16 else 8)
  pub first : Fits form (slot bytes)
  pub second : form.opcode ≡ wide_load → Fits half_form (slot (drop 8 bytes))
