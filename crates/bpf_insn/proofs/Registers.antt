-- The registers of a code.
use Rattle.std.proofs.Common.{◌<◌, ◌^◌, List, [], ◌∷◌, arith, Bool, true, false, lit<}
use Rattle.std.specs.Prelude.{◌==◌, All}
use Rattle.std.specs.List.{AllByRecursion}
use Rattle.std.proofs.lemmas.List.Elements.{All-from_recursion}
use Rattle.bpf_insn.specs.declared.insn.Insn.{Insn}
use Rattle.bpf_insn.specs.declared.operation.Distance.TheVariants as distance
use Rattle.bpf_insn.specs.declared.operation.Operand.TheVariants.{Imm, Register}
use Rattle.bpf_insn.specs.declared.operation.Operation.{Operation}
use Rattle.bpf_insn.specs.declared.operation.Operation.TheVariants.{Alu, Neg, End, Jump, Branch, Call, Exit, Load, LoadSigned, Store, LoadWide}
use Rattle.bpf_insn.specs.declared.operation.Operation.TheVariants as operation
use Rattle.bpf_insn.specs.Form.{form_of, half_form, Fits, IsListed}
use Rattle.bpf_insn.specs.Code.{Continues, IsCode}
use Rattle.bpf_insn.specs.Insn.{HasRegisters}
use Rattle.bpf_insn.proofs.Slots.{bit_below}

-- no form has a register above r10
masks : (o : Operation) → ((form_of o).targets < 2 ^ 11) × ((form_of o).sources < 2 ^ 11)
masks (Alu width op Imm) = (lit< tt, lit< tt)
masks (Alu width op Register) = (lit< tt, lit< tt)
masks (Neg width) = (lit< tt, lit< tt)
masks (End order) = (lit< tt, lit< tt)
masks (Jump distance.Offset) = (lit< tt, lit< tt)
masks (Jump distance.Imm) = (lit< tt, lit< tt)
masks (Branch width test Imm) = (lit< tt, lit< tt)
masks (Branch width test Register) = (lit< tt, lit< tt)
masks Call = (lit< tt, lit< tt)
masks Exit = (lit< tt, lit< tt)
masks (Load size) = (lit< tt, lit< tt)
masks (LoadSigned size) = (lit< tt, lit< tt)
masks (Store size Imm) = (lit< tt, lit< tt)
masks (Store size Register) = (lit< tt, lit< tt)
masks (operation.Atomic width) = (lit< tt, lit< tt)
masks LoadWide = (lit< tt, lit< tt)

pub registers : (insn : Insn) → IsListed insn → HasRegisters insn
registers insn (o, fits) =
    let target = bit_below 11 (form_of o).targets insn.target (masks o).0 fits.target in
    let source = bit_below 11 (form_of o).sources insn.source (masks o).1 fits.source in
    (omega arith, omega arith)

pub half_registers : (insn : Insn) → Fits half_form insn → HasRegisters insn
half_registers insn fits =
    let target : insn.target < 11 = bit_below 11 0x001 insn.target (lit< tt) fits.target in
    let source : insn.source < 11 = bit_below 11 0x001 insn.source (lit< tt) fits.source in
    (omega arith, omega arith)

each_registers : (wide : Bool) (insns : List Insn) → Continues wide insns → AllByRecursion HasRegisters insns
each_registers wide [] code = tt
each_registers true (insn ∷ insns) code = (half_registers insn code.1, each_registers false insns code.2)
each_registers false (insn ∷ insns) code = (registers insn code.1, each_registers (insn.opcode == 0x18) insns code.2)

pub code_registers : (insns : List Insn) → IsCode insns → All HasRegisters insns
code_registers insns code = All-from_recursion HasRegisters insns (each_registers false insns code)
