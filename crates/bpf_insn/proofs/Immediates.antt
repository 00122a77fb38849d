-- A code with another immediate at a call, a wide load or a half.
use Rattle.std.proofs.Common.{◌≡◌, ◌⊎◌, ℕ, ℤ, zero, suc, Bool, true, false, List, [], ◌∷◌, Some, sym, subst, ◌∙◌, inl, inr}
use Rattle.std.specs.Prelude.{◌==◌, slice_get, slice_set}
use Rattle.bpf_insn.specs.declared.insn.Insn.{Insn}
use Rattle.bpf_insn.specs.declared.operation.Operation.{Operation}
use Rattle.bpf_insn.specs.declared.operation.Operation.TheVariants.{Call, LoadWide}
use Rattle.bpf_insn.specs.declared.table.Form.{Form}
use Rattle.bpf_insn.specs.declared.table.ImmRule.TheVariants as imms
use Rattle.bpf_insn.specs.Form.{form_of, half_form, wide_load, Fits, IsListed}
use Rattle.bpf_insn.specs.Code.{Continues, IsCode, TakesAnyImm}
use Rattle.bpf_insn.specs.Operation.{opcode_of}
use Rattle.bpf_insn.proofs.Rows.{one_form}

abbrev with_imm : Insn → ℤ → Insn
with_imm insn imm = record insn { imm = imm }

half_fits : (insn : Insn) (imm : ℤ) → Fits half_form insn → Fits half_form (with_imm insn imm)
half_fits insn imm fits = record { opcode = fits.opcode; target = fits.target; source = fits.source; offset = fits.offset; imm = tt }

call_fits : (insn : Insn) (imm : ℤ) → Fits (form_of Call) insn → Fits (form_of Call) (with_imm insn imm)
call_fits insn imm fits = record { opcode = fits.opcode; target = fits.target; source = fits.source; offset = fits.offset; imm = tt }

load_fits : (insn : Insn) (imm : ℤ) → Fits (form_of LoadWide) insn → Fits (form_of LoadWide) (with_imm insn imm)
load_fits insn imm fits = record { opcode = fits.opcode; target = fits.target; source = fits.source; offset = fits.offset; imm = tt }

-- an instruction of an operation's opcode fits that operation
fits_as : (insn : Insn) (operation : Operation) → IsListed insn → insn.opcode ≡ opcode_of operation → Fits (form_of operation) insn
fits_as insn operation (o, fits) is = subst (λ (form : Form). Fits form insn) (one_form o operation (sym fits.opcode ∙ is)) fits

front : (wide : Bool) (insn : Insn) (insns : List Insn) (imm : ℤ) → TakesAnyImm insn → Continues wide (insn ∷ insns) → Continues wide (with_imm insn imm ∷ insns)
front true insn insns imm takes code = (code.0, half_fits insn imm code.1, code.2)
front false insn insns imm (inl call) code = (code.0, (Call, call_fits insn imm (fits_as insn Call code.1 call)), code.2)
front false insn insns imm (inr (inl load)) code = (code.0, (LoadWide, load_fits insn imm (fits_as insn LoadWide code.1 load)), code.2)
front false insn insns imm (inr (inr half)) code = let no = code.0 in absurd (cc)

other_imm : (wide : Bool) (insns : List Insn) (place : ℕ) (insn : Insn) (imm : ℤ) → slice_get insns place ≡ Some insn → TakesAnyImm insn → Continues wide insns → Continues wide (slice_set insns place (with_imm insn imm))
other_imm wide [] place insn imm here takes code = absurd (cc)
other_imm wide (first ∷ insns) zero insn imm here takes code =
    let same : first ≡ insn = cc in
    front wide insn insns imm takes (subst (λ (one : Insn). Continues wide (one ∷ insns)) same code)
other_imm true (first ∷ insns) (suc place) insn imm here takes code = (code.0, code.1, other_imm false insns place insn imm here takes code.2)
other_imm false (first ∷ insns) (suc place) insn imm here takes code = (code.0, code.1, other_imm (first.opcode == wide_load) insns place insn imm here takes code.2)

pub any_imm : (insns : List Insn) (place : ℕ) (insn : Insn) (imm : ℤ) → slice_get insns place ≡ Some insn → TakesAnyImm insn → IsCode insns → IsCode (slice_set insns place (record insn { imm = imm }))
any_imm insns place insn imm here takes code = other_imm false insns place insn imm here takes code
