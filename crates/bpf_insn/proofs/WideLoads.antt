-- What tells a wide load from the rest, and the mark of its second slot.
use Rattle.std.proofs.Common.{◌≡◌, ◌≢◌, ℕ, arith, true, false}
use Rattle.std.specs.Prelude.{◌==◌}
use Rattle.std.proofs.lemmas.Bool.Decides.{nat_tests}
use Rattle.bpf_insn.specs.declared.insn.Insn.{Insn}
use Rattle.bpf_insn.specs.Form.{half_form, Fits}
use Rattle.bpf_insn.specs.Insn.{half_of}

-- the test of the opcode
pub is_wide : (n : ℕ) → (n == 0x18) ≡ true → n ≡ 0x18
is_wide n e = grind (arith, nat_tests)

pub is_narrow : (n : ℕ) → (n == 0x18) ≡ false → n ≢ 0x18
is_narrow n e same = grind (arith, nat_tests)

pub wide_test : (n : ℕ) → n ≡ 0x18 → (n == 0x18) ≡ true
wide_test n e = grind (arith, nat_tests)

pub narrow_test : (n : ℕ) → n ≢ 0x18 → (n == 0x18) ≡ false
narrow_test n e = grind (arith, nat_tests)

-- the mark of a half is no field of a slot
pub fits_unmarked : (insn : Insn) → Fits half_form insn → Fits half_form (record insn { half = false })
fits_unmarked insn fits = record { opcode = fits.opcode; target = fits.target; source = fits.source; offset = fits.offset; imm = tt }

pub fits_marked : (insn : Insn) → Fits half_form insn → Fits half_form (half_of insn)
fits_marked insn fits = record { opcode = fits.opcode; target = fits.target; source = fits.source; offset = fits.offset; imm = tt }
