-- All operations, and the one of an opcode.
use Rattle.std.specs.Prelude.{ℕ, ◌==◌, List, [], ◌∷◌, ◌++◌, map, find, Option}
use Rattle.std.specs.List.{flat_map}
use Rattle.bpf_alu.specs.declared.byte_order.Order.{Order}
use Rattle.bpf_alu.specs.declared.byte_order.Order.TheVariants.{ToLittle, ToBig, Swap}
use Rattle.bpf_alu.specs.declared.comparison.Test.{Test}
use Rattle.bpf_alu.specs.declared.comparison.Test.TheVariants as test
use Rattle.bpf_insn.specs.declared.operation.Arithmetic.{Arithmetic}
use Rattle.bpf_insn.specs.declared.operation.Arithmetic.TheVariants as arithmetic
use Rattle.bpf_insn.specs.declared.operation.Distance.{Distance}
use Rattle.bpf_insn.specs.declared.operation.Distance.TheVariants as distance
use Rattle.bpf_insn.specs.declared.operation.Narrow.{Narrow}
use Rattle.bpf_insn.specs.declared.operation.Narrow.TheVariants as narrow
use Rattle.bpf_insn.specs.declared.operation.Operand.{Operand}
use Rattle.bpf_insn.specs.declared.operation.Operand.TheVariants as operand
use Rattle.bpf_insn.specs.declared.operation.Operation.{Operation}
use Rattle.bpf_insn.specs.declared.operation.Operation.TheVariants.{Alu, Neg, End, Jump, Branch, Call, Exit, Load, LoadSigned, Store, LoadWide}
use Rattle.bpf_insn.specs.declared.operation.Operation.TheVariants as operation
use Rattle.bpf_insn.specs.declared.operation.Size.{Size}
use Rattle.bpf_insn.specs.declared.operation.Size.TheVariants as size
use Rattle.bpf_insn.specs.declared.operation.Width.{Width}
use Rattle.bpf_insn.specs.declared.operation.Width.TheVariants.{Bits32, Bits64}
use Rattle.bpf_insn.specs.Operation.{opcode_of}

abbrev pub widths : List Width
widths = Bits32 ∷ Bits64 ∷ []

abbrev pub operands : List Operand
operands = operand.Imm ∷ operand.Register ∷ []

abbrev pub arithmetics : List Arithmetic
arithmetics =
    arithmetic.Add ∷ arithmetic.Sub ∷ arithmetic.Mul ∷ arithmetic.Div ∷ arithmetic.Or ∷ arithmetic.And ∷ arithmetic.Lsh ∷ arithmetic.Rsh
    ∷ arithmetic.Mod ∷ arithmetic.Xor ∷ arithmetic.Mov ∷ arithmetic.Arsh ∷ []

abbrev pub tests : List Test
tests =
    test.Eq ∷ test.Gt ∷ test.Ge ∷ test.Set ∷ test.Ne ∷ test.Sgt ∷ test.Sge ∷ test.Lt ∷ test.Le ∷ test.Slt ∷ test.Sle ∷ []

abbrev pub orders : List Order
orders = ToLittle ∷ ToBig ∷ Swap ∷ []

abbrev pub distances : List Distance
distances = distance.Offset ∷ distance.Imm ∷ []

abbrev pub sizes : List Size
sizes = size.Byte ∷ size.Half ∷ size.Word ∷ size.Double ∷ []

abbrev pub narrows : List Narrow
narrows = narrow.Byte ∷ narrow.Half ∷ narrow.Word ∷ []

-- by class: arithmetic, jumps, loads and stores
abbrev pub arithmetic_operations : List Operation
arithmetic_operations =
    flat_map (λ width. flat_map (λ op. map (λ operand. Alu width op operand) operands) arithmetics) widths
    ++ (map (λ width. Neg width) widths ++ map (λ order. End order) orders)

abbrev pub jump_operations : List Operation
jump_operations =
    flat_map (λ width. flat_map (λ test. map (λ operand. Branch width test operand) operands) tests) widths
    ++ (map (λ distance. Jump distance) distances ++ Call ∷ Exit ∷ [])

abbrev pub memory_operations : List Operation
memory_operations =
    map (λ size. Load size) sizes ++ (map (λ size. LoadSigned size) narrows
    ++ (flat_map (λ size. map (λ operand. Store size operand) operands) sizes
    ++ (map (λ width. operation.Atomic width) widths ++ LoadWide ∷ [])))

unfoldable pub operations : List Operation
operations = arithmetic_operations ++ (jump_operations ++ memory_operations)

-- the operation of an opcode, where there is one
unfoldable pub operation_of : ℕ → Option Operation
operation_of opcode = find (λ operation. opcode_of operation == opcode) operations
