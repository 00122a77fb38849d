-- Bytes as instructions.
use Rattle.std.specs.Prelude.{◌≡◌, ◌≢◌, ◌⊎◌, ◌==◌, ℕ, List, [], ◌∷◌, ◌++◌, length, take, drop, if◌then◌else◌, Bool, true, false, Result, Ok, Err, ⊤}
use Rattle.std.specs.List.{concat, flat_map, AllByRecursion}
use Rattle.bpf_insn.specs.declared.decoding.DecodeEnd.{DecodeEnd}
use Rattle.bpf_insn.specs.declared.decoding.DecodeEnd.TheVariants.{BadInsn, OutOfMemory}
use Rattle.bpf_insn.specs.declared.insn.Insn.{Insn}
use Rattle.bpf_insn.specs.declared.operation.Operation.{Operation}
use Rattle.bpf_insn.specs.declared.operation.Operation.TheVariants.{Call}
use Rattle.bpf_insn.specs.Operation.{opcode_of}
use Rattle.bpf_insn.specs.Form.{form_of, half_form, wide_load, Fits, IsListed, Takes}
use Rattle.bpf_insn.specs.Insn.{slot, half_of}

-- a piece: bytes that a form of the table takes
abbrev pub IsPiece : List ℕ → Type 0
IsPiece bytes = (operation : Operation) × Takes (form_of operation) bytes

-- the one instruction of a piece, or a wide load and its half
abbrev pub insns_of : List ℕ → List Insn
insns_of piece = if length piece == 8 then slot piece ∷ [] else slot piece ∷ half_of (slot (drop 8 piece)) ∷ []

-- bytes in pieces, one after another, up to where no piece begins
pub record Split (bytes : List ℕ) : Type 0 where
  pub pieces : List (List ℕ)
  pub rest : List ℕ
  pub each : AllByRecursion IsPiece pieces
  pub joined : bytes ≡ concat pieces ++ rest
  pub last : (n : ℕ) → IsPiece (take n rest) → ⊥

-- The instructions of bytes that are pieces alone, or else the number of the slot at which no piece begins.
abbrev pub Decodes : List ℕ → Result (List Insn) ℕ → Type 0
Decodes bytes (Ok insns) = (split : Split bytes) × (split.rest ≡ []) × (insns ≡ flat_map insns_of split.pieces)
Decodes bytes (Err index) = (split : Split bytes) × (split.rest ≢ []) × (index ≡ length (flat_map insns_of split.pieces))

-- what a decoder gives, which may want memory
abbrev pub IsDecoded : List ℕ → Result (List Insn) DecodeEnd → Type 0
IsDecoded bytes (Ok insns) = Decodes bytes (Ok insns)
IsDecoded bytes (Err (BadInsn index)) = Decodes bytes (Err index)
IsDecoded bytes (Err OutOfMemory) = ⊤

-- the decoder gave this, unless it wanted memory
abbrev pub Gives : Result (List Insn) DecodeEnd → Result (List Insn) ℕ → Type 0
Gives (Ok insns) answer = answer ≡ Ok insns
Gives (Err (BadInsn index)) answer = answer ≡ Err index
Gives (Err OutOfMemory) answer = ⊤

-- a code that can be written: each instruction is in the table, and a half stands behind each wide load and nowhere else;
-- `wide` says whether a wide load stands in front
abbrev pub Continues : Bool → List Insn → Type 0
Continues wide [] = wide ≡ false
Continues true (insn ∷ insns) = (insn.half ≡ true) × Fits half_form insn × Continues false insns
Continues false (insn ∷ insns) = (insn.half ≡ false) × IsListed insn × Continues (insn.opcode == wide_load) insns

abbrev pub IsCode : List Insn → Type 0
IsCode insns = Continues false insns

-- an instruction that may have any other immediate: a call, a wide load, or its half
abbrev pub TakesAnyImm : Insn → Type 0
TakesAnyImm insn = (insn.opcode ≡ opcode_of Call) ⊎ ((insn.opcode ≡ wide_load) ⊎ (insn.half ≡ true))
