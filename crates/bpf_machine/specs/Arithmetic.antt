-- Arithmetic and tests of instructions (RFC 9669 §4), on registers of 64 bits.
use Rattle.std.specs.Prelude.{ℕ, ℤ, pos, negsuc, zero, suc, ◌%◌, ◌^◌, Bool, List, slice_index}
use Rattle.std.specs.Int.{w64, cast_unsigned}
use Rattle.bpf_alu.specs.declared.arithmetic.Op.{Op}
use Rattle.bpf_alu.specs.declared.arithmetic.Op.TheVariants as op
use Rattle.bpf_alu.specs.declared.comparison.Test.{Test}
use Rattle.bpf_alu.specs.Numbers.{extend}
use Rattle.bpf_alu.specs.Op.{alu}
use Rattle.bpf_alu.specs.Test.{compare}
use Rattle.bpf_insn.specs.declared.insn.Insn.{Insn}
use Rattle.bpf_insn.specs.declared.operation.Arithmetic.{Arithmetic}
use Rattle.bpf_insn.specs.declared.operation.Arithmetic.TheVariants.{Add, Sub, Mul, Div, Or, And, Lsh, Rsh, Mod, Xor, Mov, Arsh}
use Rattle.bpf_insn.specs.declared.operation.Operand.{Operand}
use Rattle.bpf_insn.specs.declared.operation.Operand.TheVariants.{Imm, Register}
use Rattle.bpf_insn.specs.declared.operation.Width.{Width}
use Rattle.bpf_insn.specs.declared.operation.Width.TheVariants.{Bits32, Bits64}

-- an immediate, sign-extended to 64 bits
abbrev pub imm_of : Insn → ℕ
imm_of insn = cast_unsigned w64 insn.imm

-- the second operand
abbrev pub operand_of : Operand → Insn → List ℕ → ℕ
operand_of Imm insn registers = imm_of insn
operand_of Register insn registers = slice_index registers insn.source

-- §4.1: the operation, signed where the offset isn't 0
abbrev pub signed_where : ℤ → Op → Op → Op
signed_where (pos zero) unsigned signed = unsigned
signed_where (pos (suc n)) unsigned signed = signed
signed_where (negsuc n) unsigned signed = signed

abbrev pub op_of : Arithmetic → ℤ → Op
op_of Add offset = op.Add
op_of Sub offset = op.Sub
op_of Mul offset = op.Mul
op_of Div offset = signed_where offset op.Div op.Sdiv
op_of Or offset = op.Or
op_of And offset = op.And
op_of Lsh offset = op.Lsh
op_of Rsh offset = op.Rsh
op_of Mod offset = signed_where offset op.Mod op.Smod
op_of Xor offset = op.Xor
op_of Mov offset = op.Mov
op_of Arsh offset = op.Arsh

-- §4.1: a move whose offset isn't 0 extends the sign of so many bits
abbrev pub moved_of : ℤ → ℕ → ℕ
moved_of (pos zero) value = value
moved_of (pos (suc n)) value = extend value (suc n)
moved_of (negsuc n) value = value

abbrev pub second_of : Arithmetic → ℤ → ℕ → ℕ
second_of Mov offset value = moved_of offset value
second_of Add offset value = value
second_of Sub offset value = value
second_of Mul offset value = value
second_of Div offset value = value
second_of Or offset value = value
second_of And offset value = value
second_of Lsh offset value = value
second_of Rsh offset value = value
second_of Mod offset value = value
second_of Xor offset value = value
second_of Arsh offset value = value

-- an operation on 64 bits, or on the low halves with the result zero-extended
abbrev pub operated : Width → Op → ℕ → ℕ → ℕ
operated Bits32 op a b = alu 32 op (a % 2 ^ 32) (b % 2 ^ 32)
operated Bits64 op a b = alu 64 op a b

-- §4.3: a test of 64 bits, or of the low halves
abbrev pub holds : Width → Test → ℕ → ℕ → Bool
holds Bits32 test a b = compare 32 test (a % 2 ^ 32) (b % 2 ^ 32)
holds Bits64 test a b = compare 64 test a b
