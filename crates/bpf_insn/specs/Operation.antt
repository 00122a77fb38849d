-- Opcodes of RFC 9669: five bits that say what is done, above three bits of class (§3.1).
use Rattle.std.specs.Prelude.{◌≡◌, ℕ, ◌+◌, ◌*◌, ⊤}
use Rattle.bpf_insn.specs.declared.operation.Width.{Width}
use Rattle.bpf_insn.specs.declared.operation.Width.TheVariants.{Bits32, Bits64}
use Rattle.bpf_insn.specs.declared.operation.Operand.{Operand}
use Rattle.bpf_insn.specs.declared.operation.Operand.TheVariants as operand
use Rattle.bpf_insn.specs.declared.operation.Arithmetic.{Arithmetic}
use Rattle.bpf_insn.specs.declared.operation.Arithmetic.TheVariants as arithmetic
use Rattle.bpf_alu.specs.declared.comparison.Test.{Test}
use Rattle.bpf_alu.specs.declared.comparison.Test.TheVariants as test
use Rattle.bpf_alu.specs.declared.byte_order.Order.TheVariants as order
use Rattle.bpf_insn.specs.declared.operation.Distance.TheVariants as distance
use Rattle.bpf_insn.specs.declared.operation.Size.{Size}
use Rattle.bpf_insn.specs.declared.operation.Size.TheVariants as size
use Rattle.bpf_insn.specs.declared.operation.Narrow.{Narrow}
use Rattle.bpf_insn.specs.declared.operation.Narrow.TheVariants as narrow
use Rattle.bpf_insn.specs.declared.operation.Operation.{Operation}
use Rattle.bpf_insn.specs.declared.operation.Operation.TheVariants.{Alu, Neg, End, Jump, Branch, Call, Exit, Load, LoadSigned, Store, LoadWide}
use Rattle.bpf_insn.specs.declared.operation.Operation.TheVariants as operation
use Rattle.bpf_insn.specs.declared.operation.Atomic.{Atomic}
use Rattle.bpf_insn.specs.declared.operation.Atomic.TheVariants as atomic

-- RFC 9669 §4: the bit that says that the second operand is a register
abbrev pub source_bit : Operand → ℕ
source_bit operand.Imm = 0
source_bit operand.Register = 1

-- RFC 9669 §4.1
abbrev pub arithmetic_code : Arithmetic → ℕ
arithmetic_code arithmetic.Add = 0x0
arithmetic_code arithmetic.Sub = 0x1
arithmetic_code arithmetic.Mul = 0x2
arithmetic_code arithmetic.Div = 0x3
arithmetic_code arithmetic.Or = 0x4
arithmetic_code arithmetic.And = 0x5
arithmetic_code arithmetic.Lsh = 0x6
arithmetic_code arithmetic.Rsh = 0x7
arithmetic_code arithmetic.Mod = 0x9
arithmetic_code arithmetic.Xor = 0xa
arithmetic_code arithmetic.Mov = 0xb
arithmetic_code arithmetic.Arsh = 0xc

-- RFC 9669 §4.3
abbrev pub test_code : Test → ℕ
test_code test.Eq = 0x1
test_code test.Gt = 0x2
test_code test.Ge = 0x3
test_code test.Set = 0x4
test_code test.Ne = 0x5
test_code test.Sgt = 0x6
test_code test.Sge = 0x7
test_code test.Lt = 0xa
test_code test.Le = 0xb
test_code test.Slt = 0xc
test_code test.Sle = 0xd

-- RFC 9669 §5: W, H, B and DW
abbrev pub size_code : Size → ℕ
size_code size.Word = 0
size_code size.Half = 1
size_code size.Byte = 2
size_code size.Double = 3

-- RFC 9669 §5.2
abbrev pub narrow_code : Narrow → ℕ
narrow_code narrow.Word = 0
narrow_code narrow.Half = 1
narrow_code narrow.Byte = 2

-- RFC 9669 §5.3: bit 0 says that the old value is fetched
abbrev pub atomic_code : Atomic → ℕ
atomic_code atomic.Add = 0x00
atomic_code atomic.Or = 0x40
atomic_code atomic.And = 0x50
atomic_code atomic.Xor = 0xa0
atomic_code atomic.FetchAdd = 0x01
atomic_code atomic.FetchOr = 0x41
atomic_code atomic.FetchAnd = 0x51
atomic_code atomic.FetchXor = 0xa1
atomic_code atomic.Exchange = 0xe1
atomic_code atomic.CompareExchange = 0xf1

-- RFC 9669 §3.3: ALU and ALU64, JMP32 and JMP
abbrev pub alu_class : Width → ℕ
alu_class Bits32 = 4
alu_class Bits64 = 7

abbrev pub jump_class : Width → ℕ
jump_class Bits32 = 6
jump_class Bits64 = 5

-- RFC 9669 §3.3
abbrev pub class_of : Operation → ℕ
class_of (Alu width op operand) = alu_class width
class_of (Neg width) = alu_class width
class_of (End order.ToLittle) = 4
class_of (End order.ToBig) = 4
class_of (End order.Swap) = 7
class_of (Jump distance.Offset) = 5
class_of (Jump distance.Imm) = 6
class_of (Branch width test operand) = jump_class width
class_of Call = 5
class_of Exit = 5
class_of (Load size) = 1
class_of (LoadSigned size) = 1
class_of (Store size operand.Imm) = 2
class_of (Store size operand.Register) = 3
class_of (operation.Atomic width) = 3
class_of LoadWide = 0

-- The five bits above the class. Arithmetic and jumps have a code and the source bit (RFC 9669 §4), loads and stores a
-- mode and a size (§5), where MEM is 3, MEMSX 4, ATOMIC 6 and IMM 0.
abbrev pub specific_of : Operation → ℕ
specific_of (Alu width op operand) = 2 * arithmetic_code op + source_bit operand
specific_of (Neg width) = 2 * 0x8
specific_of (End order.ToLittle) = 2 * 0xd
specific_of (End order.ToBig) = 2 * 0xd + 1
specific_of (End order.Swap) = 2 * 0xd
specific_of (Jump distance) = 0
specific_of (Branch width test operand) = 2 * test_code test + source_bit operand
specific_of Call = 2 * 0x8
specific_of Exit = 2 * 0x9
specific_of (Load size) = 4 * 3 + size_code size
specific_of (LoadSigned size) = 4 * 4 + narrow_code size
specific_of (Store size operand) = 4 * 3 + size_code size
specific_of (operation.Atomic Bits32) = 4 * 6 + 0
specific_of (operation.Atomic Bits64) = 4 * 6 + 3
specific_of LoadWide = 4 * 0 + 3

-- RFC 9669 §3.1
abbrev pub opcode_of : Operation → ℕ
opcode_of operation = 8 * specific_of operation + class_of operation

-- the operation puts the old value into the source register
abbrev pub IsSourceWritten : Atomic → Type 0
IsSourceWritten atomic.Add = ⊥
IsSourceWritten atomic.Or = ⊥
IsSourceWritten atomic.And = ⊥
IsSourceWritten atomic.Xor = ⊥
IsSourceWritten atomic.CompareExchange = ⊥
IsSourceWritten atomic.FetchAdd = ⊤
IsSourceWritten atomic.FetchOr = ⊤
IsSourceWritten atomic.FetchAnd = ⊤
IsSourceWritten atomic.FetchXor = ⊤
IsSourceWritten atomic.Exchange = ⊤

-- the class and the five bits above it are those of the operation
pub record IsOpcode (class specific : ℕ) (operation : Operation) : Type 0 where
  pub class_is : class_of operation ≡ class
  pub specific_is : specific_of operation ≡ specific
