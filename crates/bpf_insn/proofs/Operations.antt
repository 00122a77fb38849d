-- Each operation is found by its opcode.
use Rattle.std.proofs.Common.{◌≡◌, ℕ, Bool, true, false, List, [], ◌∷◌, Option, Some, refl, ◌⊎◌, inl, inr, arith}
use Rattle.std.specs.Prelude.{◌==◌, find}
use Rattle.std.specs.List.{list_any}
use Rattle.std.proofs.lemmas.Bool.Decides.{nat_tests}
use Rattle.bpf_alu.specs.declared.byte_order.Order.TheVariants.{ToLittle, ToBig, Swap}
use Rattle.bpf_alu.specs.declared.comparison.Test.{Test}
use Rattle.bpf_alu.specs.declared.comparison.Test.TheVariants as test
use Rattle.bpf_insn.specs.declared.insn.Insn.{Insn}
use Rattle.bpf_insn.specs.declared.operation.Arithmetic.{Arithmetic}
use Rattle.bpf_insn.specs.declared.operation.Arithmetic.TheVariants as arithmetic
use Rattle.bpf_insn.specs.declared.operation.Distance.TheVariants as distance
use Rattle.bpf_insn.specs.declared.operation.Narrow.TheVariants as narrow
use Rattle.bpf_insn.specs.declared.operation.Operand.{Operand}
use Rattle.bpf_insn.specs.declared.operation.Operand.TheVariants as operand
use Rattle.bpf_insn.specs.declared.operation.Operation.{Operation}
use Rattle.bpf_insn.specs.declared.operation.Operation.TheVariants.{Alu, Neg, End, Jump, Branch, Call, Exit, Load, LoadSigned, Store, LoadWide}
use Rattle.bpf_insn.specs.declared.operation.Operation.TheVariants as operation
use Rattle.bpf_insn.specs.declared.operation.Size.TheVariants as size
use Rattle.bpf_insn.specs.declared.operation.Width.{Width}
use Rattle.bpf_insn.specs.declared.operation.Width.TheVariants.{Bits32, Bits64}
use Rattle.bpf_insn.specs.Form.{IsListed}
use Rattle.bpf_insn.specs.Operation.{opcode_of}
use Rattle.bpf_insn.specs.Operations.{operations, operation_of}

-- what holds of each value of an enum
each_arithmetic : (P : Arithmetic → Type 0) → P arithmetic.Add → P arithmetic.Sub → P arithmetic.Mul → P arithmetic.Div → P arithmetic.Or → P arithmetic.And → P arithmetic.Lsh → P arithmetic.Rsh → P arithmetic.Mod → P arithmetic.Xor → P arithmetic.Mov → P arithmetic.Arsh → (x : Arithmetic) → P x
each_arithmetic P a b c d e f g h i j k l arithmetic.Add = a
each_arithmetic P a b c d e f g h i j k l arithmetic.Sub = b
each_arithmetic P a b c d e f g h i j k l arithmetic.Mul = c
each_arithmetic P a b c d e f g h i j k l arithmetic.Div = d
each_arithmetic P a b c d e f g h i j k l arithmetic.Or = e
each_arithmetic P a b c d e f g h i j k l arithmetic.And = f
each_arithmetic P a b c d e f g h i j k l arithmetic.Lsh = g
each_arithmetic P a b c d e f g h i j k l arithmetic.Rsh = h
each_arithmetic P a b c d e f g h i j k l arithmetic.Mod = i
each_arithmetic P a b c d e f g h i j k l arithmetic.Xor = j
each_arithmetic P a b c d e f g h i j k l arithmetic.Mov = k
each_arithmetic P a b c d e f g h i j k l arithmetic.Arsh = l

each_test : (P : Test → Type 0) → P test.Eq → P test.Gt → P test.Ge → P test.Set → P test.Ne → P test.Sgt → P test.Sge → P test.Lt → P test.Le → P test.Slt → P test.Sle → (x : Test) → P x
each_test P a b c d e f g h i j k test.Eq = a
each_test P a b c d e f g h i j k test.Gt = b
each_test P a b c d e f g h i j k test.Ge = c
each_test P a b c d e f g h i j k test.Set = d
each_test P a b c d e f g h i j k test.Ne = e
each_test P a b c d e f g h i j k test.Sgt = f
each_test P a b c d e f g h i j k test.Sge = g
each_test P a b c d e f g h i j k test.Lt = h
each_test P a b c d e f g h i j k test.Le = i
each_test P a b c d e f g h i j k test.Slt = j
each_test P a b c d e f g h i j k test.Sle = k

-- an operation of the opcode is one of the list
abbrev IsFound : Operation → Type 0
IsFound o = list_any (λ other. opcode_of other == opcode_of o) operations ≡ true

alu : (width : Width) (operand : Operand) (op : Arithmetic) → IsFound (Alu width op operand)
unfolding operations
alu Bits32 operand.Imm = each_arithmetic (λ op. IsFound (Alu Bits32 op operand.Imm)) refl refl refl refl refl refl refl refl refl refl refl refl
alu Bits32 operand.Register = each_arithmetic (λ op. IsFound (Alu Bits32 op operand.Register)) refl refl refl refl refl refl refl refl refl refl refl refl
alu Bits64 operand.Imm = each_arithmetic (λ op. IsFound (Alu Bits64 op operand.Imm)) refl refl refl refl refl refl refl refl refl refl refl refl
alu Bits64 operand.Register = each_arithmetic (λ op. IsFound (Alu Bits64 op operand.Register)) refl refl refl refl refl refl refl refl refl refl refl refl

branch : (width : Width) (operand : Operand) (t : Test) → IsFound (Branch width t operand)
unfolding operations
branch Bits32 operand.Imm = each_test (λ t. IsFound (Branch Bits32 t operand.Imm)) refl refl refl refl refl refl refl refl refl refl refl
branch Bits32 operand.Register = each_test (λ t. IsFound (Branch Bits32 t operand.Register)) refl refl refl refl refl refl refl refl refl refl refl
branch Bits64 operand.Imm = each_test (λ t. IsFound (Branch Bits64 t operand.Imm)) refl refl refl refl refl refl refl refl refl refl refl
branch Bits64 operand.Register = each_test (λ t. IsFound (Branch Bits64 t operand.Register)) refl refl refl refl refl refl refl refl refl refl refl

is_found : (o : Operation) → IsFound o
unfolding operations
is_found (Alu width op operand) = alu width operand op
is_found (Neg Bits32) = refl
is_found (Neg Bits64) = refl
is_found (End ToLittle) = refl
is_found (End ToBig) = refl
is_found (End Swap) = refl
is_found (Jump distance.Offset) = refl
is_found (Jump distance.Imm) = refl
is_found (Branch width t operand) = branch width operand t
is_found Call = refl
is_found Exit = refl
is_found (Load size.Byte) = refl
is_found (Load size.Half) = refl
is_found (Load size.Word) = refl
is_found (Load size.Double) = refl
is_found (LoadSigned narrow.Byte) = refl
is_found (LoadSigned narrow.Half) = refl
is_found (LoadSigned narrow.Word) = refl
is_found (Store size.Byte operand.Imm) = refl
is_found (Store size.Byte operand.Register) = refl
is_found (Store size.Half operand.Imm) = refl
is_found (Store size.Half operand.Register) = refl
is_found (Store size.Word operand.Imm) = refl
is_found (Store size.Word operand.Register) = refl
is_found (Store size.Double operand.Imm) = refl
is_found (Store size.Double operand.Register) = refl
is_found (operation.Atomic Bits32) = refl
is_found (operation.Atomic Bits64) = refl
is_found LoadWide = refl

-- the first item that passes
pub record Passes {A : Type 0} (p : A → Bool) (xs : List A) : Type 0 where
  pub item : A
  pub found : find p xs ≡ Some item
  pub passes : p item ≡ true

cases : (b : Bool) → (b ≡ true) ⊎ (b ≡ false)
cases true = inl refl
cases false = inr refl

first_passing : {A : Type 0} (p : A → Bool) (xs : List A) → list_any p xs ≡ true → Passes p xs
first_passing p [] any = absurd cc
first_passing p (x ∷ xs) any = elim (cases (p x)) [
  | inl holds ↦ record { item = x; found = rw holds refl; passes = holds }
  | inr fails ↦ (let rest = first_passing p xs (rw fails at any) in record { item = rest.item; found = rw fails rest.found; passes = rest.passes })
]

-- the operation of an instruction that is in the table
pub record HasOperation (insn : Insn) : Type 0 where
  pub operation : Operation
  pub found : operation_of insn.opcode ≡ Some operation
  pub opcode : opcode_of operation ≡ insn.opcode

same_number : (a b : ℕ) → (a == b) ≡ true → a ≡ b
same_number a b same = grind (arith, nat_tests)

pub has_operation : (insn : Insn) → IsListed insn → HasOperation insn
unfolding operation_of
has_operation insn listed =
    let any : list_any (λ other. opcode_of other == insn.opcode) operations ≡ true = rw (listed.1.opcode) (is_found listed.0) in
    let first = first_passing (λ other. opcode_of other == insn.opcode) operations any in
    record { operation = first.item; found = first.found; opcode = same_number (opcode_of first.item) insn.opcode first.passes }
