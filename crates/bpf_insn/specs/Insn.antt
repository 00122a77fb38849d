-- One slot of 8 bytes (RFC 9669 §3.1).
use Rattle.std.specs.Prelude.{◌≤◌, ◌+◌, ◌*◌, ◌/◌, ◌%◌, ℕ, List, ◌∷◌, ◌++◌, slice_index, true, false}
use Rattle.std.specs.Int.{w16, w32, cast_signed, cast_unsigned}
use Rattle.byteorder.specs.Endian.{little_from, little_bytes}
use Rattle.bpf_insn.specs.declared.insn.Insn.{Insn}

-- the fields of the slot at the front of the bytes, little endian
unfoldable pub slot : List ℕ → Insn
slot bytes = record {
  opcode = slice_index bytes 0;
  target = slice_index bytes 1 % 16;
  source = slice_index bytes 1 / 16;
  offset = cast_signed w16 (little_from 2 2 bytes);
  imm = cast_signed w32 (little_from 4 4 bytes);
  half = false;
}

-- the same slot as the second of a wide load
abbrev pub half_of : Insn → Insn
half_of insn = record insn { half = true }

-- the slot of an instruction, as `slot` reads it
unfoldable pub slot_bytes : Insn → List ℕ
slot_bytes insn =
    insn.opcode ∷ (insn.source * 16 + insn.target) ∷ (little_bytes 2 (cast_unsigned w16 insn.offset) ++ little_bytes 4 (cast_unsigned w32 insn.imm))

-- the registers are r0 to r10
abbrev pub HasRegisters : Insn → Type 0
HasRegisters insn = (insn.target ≤ 10) × (insn.source ≤ 10)
