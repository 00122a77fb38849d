-- Each instruction of a code is in the table.
use Rattle.std.proofs.Common.{◌≡◌, ℕ, zero, suc, List, [], ◌∷◌, Bool, true, false, Some, slice_get, subst}
use Rattle.std.specs.Prelude.{◌==◌}
use Rattle.bpf_insn.specs.declared.insn.Insn.{Insn}
use Rattle.bpf_insn.specs.Form.{IsListed, wide_load}
use Rattle.bpf_insn.specs.Code.{Continues, IsCode}

some_same : (a b : Insn) → Some a ≡ Some b → a ≡ b
some_same a b same = cc

listed : (wide : Bool) (insns : List Insn) (k : ℕ) (insn : Insn) → Continues wide insns → slice_get insns k ≡ Some insn → insn.half ≡ false → IsListed insn
listed wide [] k insn code is whole = cc
listed true (first ∷ insns) zero insn code is whole =
    let same : first ≡ insn = some_same first insn is in
    let half : insn.half ≡ true = subst (λ (i : Insn). i.half ≡ true) same code.0 in
    cc
listed false (first ∷ insns) zero insn code is whole = subst IsListed (some_same first insn is) code.1
listed true (first ∷ insns) (suc k) insn code is whole = listed false insns k insn code.2 is whole
listed false (first ∷ insns) (suc k) insn code is whole = listed (first.opcode == wide_load) insns k insn code.2 is whole

pub code_listed : (insns : List Insn) (k : ℕ) (insn : Insn) → IsCode insns → slice_get insns k ≡ Some insn → insn.half ≡ false → IsListed insn
code_listed insns k insn code is whole = listed false insns k insn code is whole
