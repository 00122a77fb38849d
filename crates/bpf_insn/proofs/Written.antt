-- What is written of a code decodes to it.
use Rattle.std.proofs.Common.{◌≡◌, ◌≢◌, ◌≤◌, ℕ, List, [], ◌∷◌, ◌++◌, length, take, drop, refl, sym, ap, ◌∙◌, subst, arith, Bool, true, false, Ok, length-append}
use Rattle.std.specs.Prelude.{◌==◌, FitsSigned}
use Rattle.std.specs.Int.{w16, w32}
use Rattle.std.specs.List.{concat, flat_map, AllByRecursion}
use Rattle.std.proofs.lemmas.List.{append_assoc, append-nil, drop_at, take_all}
use Rattle.bpf_insn.specs.declared.insn.Insn.{Insn}
use Rattle.bpf_insn.specs.Form.{form_of, half_form, Fits, IsListed}
use Rattle.bpf_insn.specs.Code.{IsPiece, insns_of, Decodes, Continues, IsCode}
use Rattle.bpf_insn.specs.Insn.{slot, half_of, slot_bytes, HasRegisters}
use Rattle.bpf_insn.proofs.Slots.{slot-slot_bytes}
use Rattle.bpf_insn.proofs.Splits.{insns_of-wide, insns_of-narrow}
use Rattle.bpf_insn.proofs.Pieces.{size-narrow, size-wide, Begins-piece}
use Rattle.bpf_insn.proofs.Registers.{registers, half_registers}
use Rattle.bpf_insn.proofs.WideLoads.{is_wide, is_narrow, fits_unmarked}

-- the signed fields are in the ranges of their types
abbrev pub InRange : Insn → Type 0
InRange insn = FitsSigned w16 insn.offset × FitsSigned w32 insn.imm

read_back : (insn : Insn) (rest : List ℕ) → HasRegisters insn → InRange insn → slot (slot_bytes insn ++ rest) ≡ record insn { half = false }
read_back insn rest in_code range = slot-slot_bytes insn rest (let target = in_code.0 in omega arith) range.0 range.1

-- the bytes of a code in its pieces
pub record Written (insns : List Insn) : Type 0 where
  pub pieces : List (List ℕ)
  pub each : AllByRecursion IsPiece pieces
  pub joined : concat pieces ≡ flat_map slot_bytes insns
  pub made : flat_map insns_of pieces ≡ insns

length-slot_bytes : (insn : Insn) → length (slot_bytes insn) ≡ 8
unfolding slot_bytes
length-slot_bytes insn = refl

-- what the half of a slot that was read becomes
unmarked : (insn : Insn) → insn.half ≡ false → record insn { half = false } ≡ insn
unmarked insn e = ap (λ b. record insn { half = b }) (sym e)

marked : (insn : Insn) → insn.half ≡ true → record insn { half = true } ≡ insn
marked insn e = ap (λ b. record insn { half = b }) (sym e)

read_alone : (insn : Insn) → HasRegisters insn → InRange insn → slot (slot_bytes insn) ≡ record insn { half = false }
read_alone insn in_code range = ap slot (sym (append-nil (slot_bytes insn))) ∙ read_back insn [] in_code range

-- a piece of one slot in front
narrow_front : (insn : Insn) (insns : List Insn) → insn.half ≡ false → IsListed insn → insn.opcode ≢ 0x18 → InRange insn → Written insns → Written (insn ∷ insns)
narrow_front insn insns whole (o, fits) narrow range written =
    let is : slot (slot_bytes insn) ≡ insn = read_alone insn (registers insn (o, fits)) range ∙ unmarked insn whole in
    let narrow_form : (form_of o).opcode ≢ 0x18 = λ wide. narrow (fits.opcode ∙ wide) in
    record {
      pieces = slot_bytes insn ∷ written.pieces;
      each = (
        (
          o,
          record {
            size = length-slot_bytes insn ∙ sym (size-narrow (form_of o).opcode narrow_form);
            first = subst (Fits (form_of o)) (sym is) fits;
            second = λ wide. absurd (narrow_form wide);
          },
        ),
        written.each,
      );
      joined = ap (λ bytes. slot_bytes insn ++ bytes) written.joined;
      made = ap (λ xs. xs ++ flat_map insns_of written.pieces) (insns_of-narrow (slot_bytes insn) (length-slot_bytes insn)) ∙ ap (λ i. i ∷ flat_map insns_of written.pieces) is ∙ ap (λ xs. insn ∷ xs) written.made;
    }

-- a wide load in front
wide_front : (first second : Insn) (insns : List Insn) → first.half ≡ false → IsListed first → first.opcode ≡ 0x18 → InRange first → second.half ≡ true → Fits half_form second → InRange second → Written insns → Written (first ∷ second ∷ insns)
wide_front first second insns whole (o, fits) wide range half half_fits half_range written =
    let piece : List ℕ = slot_bytes first ++ slot_bytes second in
    let is : slot piece ≡ first = read_back first (slot_bytes second) (registers first (o, fits)) range ∙ unmarked first whole in
    let behind : drop 8 piece ≡ slot_bytes second = drop_at (slot_bytes first) (slot_bytes second) 8 (length-slot_bytes first) in
    let second_is : slot (drop 8 piece) ≡ record second { half = false } = ap slot behind ∙ read_alone second (half_registers second half_fits) half_range in
    let both : half_of (slot (drop 8 piece)) ≡ second = ap half_of second_is ∙ marked second half in
    let wide_form : (form_of o).opcode ≡ 0x18 = sym fits.opcode ∙ wide in
    let long : length piece ≡ 16 = omega (arith, length-append (slot_bytes first) (slot_bytes second), length-slot_bytes first, length-slot_bytes second) in
    record {
      pieces = piece ∷ written.pieces;
      each = (
        (
          o,
          record {
            size = long ∙ sym (size-wide (form_of o).opcode wide_form);
            first = subst (Fits (form_of o)) (sym is) fits;
            second = λ _. subst (Fits half_form) (sym second_is) (fits_unmarked second half_fits);
          },
        ),
        written.each,
      );
      joined = append_assoc (slot_bytes first) (slot_bytes second) (concat written.pieces) ∙ ap (λ bytes. slot_bytes first ++ (slot_bytes second ++ bytes)) written.joined;
      made = ap (λ xs. xs ++ flat_map insns_of written.pieces) (insns_of-wide piece (omega arith)) ∙ ap (λ i. i ∷ half_of (slot (drop 8 piece)) ∷ flat_map insns_of written.pieces) is
          ∙ ap (λ i. first ∷ i ∷ flat_map insns_of written.pieces) both ∙ ap (λ xs. first ∷ second ∷ xs) written.made;
    }

-- the second slot goes with the first where that is a wide load
front : (first second : Insn) (insns : List Insn) → first.half ≡ false → IsListed first → InRange first → InRange second → (wide : Bool) → (first.opcode == 0x18) ≡ wide → Continues wide (second ∷ insns) → (IsCode (second ∷ insns) → Written (second ∷ insns)) → (IsCode insns → Written insns) → Written (first ∷ second ∷ insns)
front first second insns whole listed range next_range true e code one two = wide_front first second insns whole listed (is_wide first.opcode e) range code.0 code.1 next_range (two code.2)
front first second insns whole listed range next_range false e code one two = narrow_front first (second ∷ insns) whole listed (is_narrow first.opcode e) range (one code)

last_slot : (wide : Bool) → Continues wide [] → wide ≡ false
last_slot true code = code
last_slot false code = code

nothing : Written []
nothing = record { pieces = []; each = tt; joined = refl; made = refl }

written : (insns : List Insn) → IsCode insns → AllByRecursion InRange insns → Written insns
written [] code ranges = nothing
written (insn ∷ []) code ranges = narrow_front insn [] code.0 code.1 (is_narrow insn.opcode (last_slot (insn.opcode == 0x18) code.2)) ranges.0 nothing
written (first ∷ second ∷ insns) code ranges =
    front first second insns code.0 code.1 ranges.0 ranges.1.0 (first.opcode == 0x18) refl code.2 (λ c. written (second ∷ insns) c ranges.1) (λ c. written insns c ranges.1.1)

pub Decodes-written : (insns : List Insn) → IsCode insns → AllByRecursion InRange insns → Decodes (flat_map slot_bytes insns) (Ok insns)
Decodes-written insns code ranges =
    let w = written insns code ranges in
    (record { pieces = w.pieces; rest = []; each = w.each; joined = sym (append-nil (concat w.pieces) ∙ w.joined); last = λ n piece. let long = (Begins-piece n [] piece).long in absurd (omega arith) }, refl, sym w.made)

-- the same of what was written slot by slot
pub Decodes-taken : (bytes : List ℕ) (insns : List Insn) (n : ℕ) → length insns ≤ n → IsCode insns → bytes ≡ flat_map slot_bytes (take n insns) → AllByRecursion InRange (take n insns) → Decodes bytes (Ok insns)
Decodes-taken bytes insns n all code is ranges =
    let whole = take_all n insns all in
    subst (λ xs. Decodes xs (Ok insns)) (sym (is ∙ ap (flat_map slot_bytes) whole)) (Decodes-written insns code (subst (AllByRecursion InRange) whole ranges))
