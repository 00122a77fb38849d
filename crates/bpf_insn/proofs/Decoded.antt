-- What is decoded is a code, and its slots are the bytes.
use Rattle.std.proofs.Common.{◌≡◌, ◌≢◌, ◌<◌, ◌^◌, ℕ, List, [], ◌∷◌, ◌++◌, length, get_or, take, drop, refl, sym, ap, ◌∙◌, subst, arith, Bool, true, false, Result, Ok, Err}
use Rattle.std.specs.Prelude.{◌==◌, All, IfOk}
use Rattle.std.specs.List.{concat, flat_map, AllByRecursion}
use Rattle.std.proofs.lemmas.List.{append-nil, take-append-drop, length-take, length-drop, get_or_default}
use Rattle.std.proofs.lemmas.List.Concat.{flat_map-append}
use Rattle.std.proofs.lemmas.List.Elements.{recursion_from_All}
use Rattle.bpf_insn.specs.declared.decoding.DecodeEnd.{DecodeEnd}
use Rattle.bpf_insn.specs.declared.insn.Insn.{Insn}
use Rattle.bpf_insn.specs.declared.operation.Operation.{Operation}
use Rattle.bpf_insn.specs.Form.{form_of, half_form, Fits, IsListed, Takes}
use Rattle.bpf_insn.specs.Code.{IsPiece, insns_of, IsDecoded, Continues, IsCode}
use Rattle.bpf_insn.specs.Insn.{slot, half_of, slot_bytes, HasRegisters}
use Rattle.bpf_insn.proofs.Slots.{AreBytes, slot-take, slot_bytes-slot}
use Rattle.bpf_insn.proofs.Splits.{insns_of-wide, insns_of-narrow}
use Rattle.bpf_insn.proofs.Pieces.{size-narrow, size-wide}
use Rattle.bpf_insn.proofs.Registers.{code_registers}
use Rattle.bpf_insn.proofs.WideLoads.{is_wide, is_narrow, wide_test, narrow_test, fits_marked}

-- what is decoded is a code
narrow_code : (first : Insn) (insns : List Insn) → first.half ≡ false → IsListed first → first.opcode ≢ 0x18 → IsCode insns → IsCode (first ∷ insns)
narrow_code first insns whole listed narrow code = (whole, listed, subst (λ b. Continues b insns) (sym (narrow_test first.opcode narrow)) code)

wide_code : (first second : Insn) (insns : List Insn) → first.half ≡ false → IsListed first → first.opcode ≡ 0x18 → second.half ≡ true → Fits half_form second → IsCode insns → IsCode (first ∷ second ∷ insns)
wide_code first second insns whole listed wide half fits code =
    let behind : Continues true (second ∷ insns) = (half, fits, code) in
    (whole, listed, subst (λ b. Continues b (second ∷ insns)) (sym (wide_test first.opcode wide)) behind)

slot-half : (bytes : List ℕ) → (slot bytes).half ≡ false
unfolding slot
slot-half bytes = refl

piece_code : (piece : List ℕ) (o : Operation) → Takes (form_of o) piece → (insns : List Insn) → IsCode insns → (wide : Bool) → ((form_of o).opcode == 0x18) ≡ wide → IsCode (insns_of piece ++ insns)
piece_code piece o takes insns code true e =
    let wide_form = is_wide (form_of o).opcode e in
    let size : length piece ≡ 16 = takes.size ∙ size-wide (form_of o).opcode wide_form in
    let both = wide_code (slot piece) (half_of (slot (drop 8 piece))) insns (slot-half piece) (o, takes.first) (takes.first.opcode ∙ wide_form) refl (fits_marked _ (takes.second wide_form)) code in
    subst (λ xs. IsCode (xs ++ insns)) (sym (insns_of-wide piece (omega arith))) both
piece_code piece o takes insns code false e =
    let narrow_form = is_narrow (form_of o).opcode e in
    let size : length piece ≡ 8 = takes.size ∙ size-narrow (form_of o).opcode narrow_form in
    let one = narrow_code (slot piece) insns (slot-half piece) (o, takes.first) (λ wide. narrow_form (sym takes.first.opcode ∙ wide)) code in
    subst (λ xs. IsCode (xs ++ insns)) (sym (insns_of-narrow piece size)) one

pieces_code : (pieces : List (List ℕ)) → AllByRecursion IsPiece pieces → IsCode (flat_map insns_of pieces)
pieces_code [] each = refl
pieces_code (piece ∷ pieces) each = piece_code piece each.0.0 each.0.1 (flat_map insns_of pieces) (pieces_code pieces each.1) ((form_of each.0.0).opcode == 0x18) refl

-- of a decoder's answer
pub code_decoded : (bytes : List ℕ) (r : Result (List Insn) DecodeEnd) → IsDecoded bytes r → IfOk r IsCode
code_decoded bytes (Ok insns) (split, done, is) = subst IsCode (sym is) (pieces_code split.pieces split.each)
code_decoded bytes (Err e) decoded = tt

pub registers_decoded : (r : Result (List Insn) DecodeEnd) → IfOk r IsCode → IfOk r (All HasRegisters)
registers_decoded (Ok insns) code = code_registers insns code
registers_decoded (Err e) code = tt

bytes_parts : (xs ys : List ℕ) → AreBytes (xs ++ ys) → AreBytes xs × AreBytes ys
bytes_parts [] ys are = (tt, are)
bytes_parts (x ∷ xs) ys are = let rest = bytes_parts xs ys are.1 in ((are.0, rest.0), rest.1)

-- the mark of a half is not written
slot_bytes-half : (insn : Insn) → slot_bytes (half_of insn) ≡ slot_bytes insn
unfolding slot_bytes
slot_bytes-half insn = refl

-- the slots of a piece are its bytes
piece_again : (piece : List ℕ) (o : Operation) → Takes (form_of o) piece → AreBytes piece → (wide : Bool) → ((form_of o).opcode == 0x18) ≡ wide → flat_map slot_bytes (insns_of piece) ≡ piece
piece_again piece o takes are true e =
    let size : length piece ≡ 16 = takes.size ∙ size-wide (form_of o).opcode (is_wide (form_of o).opcode e) in
    let parts = bytes_parts (take 8 piece) (drop 8 piece) (subst AreBytes (sym (take-append-drop 8 piece)) are) in
    let first : slot_bytes (slot piece) ≡ take 8 piece = ap slot_bytes (sym (slot-take 8 piece (omega arith))) ∙ slot_bytes-slot (take 8 piece) (omega (arith, length-take 8 piece)) parts.0 in
    let second : slot_bytes (half_of (slot (drop 8 piece))) ≡ drop 8 piece = slot_bytes-half (slot (drop 8 piece)) ∙ slot_bytes-slot (drop 8 piece) (omega (arith, length-drop 8 piece)) parts.1 in
    ap (flat_map slot_bytes) (insns_of-wide piece (omega arith))
    ∙ ap (λ xs. slot_bytes (slot piece) ++ xs) (append-nil (slot_bytes (half_of (slot (drop 8 piece)))) ∙ second)
    ∙ ap (λ xs. xs ++ drop 8 piece) first ∙ take-append-drop 8 piece
piece_again piece o takes are false e =
    let size : length piece ≡ 8 = takes.size ∙ size-narrow (form_of o).opcode (is_narrow (form_of o).opcode e) in
    ap (flat_map slot_bytes) (insns_of-narrow piece size) ∙ append-nil (slot_bytes (slot piece)) ∙ slot_bytes-slot piece size are

pieces_again : (pieces : List (List ℕ)) → AllByRecursion IsPiece pieces → AreBytes (concat pieces) → flat_map slot_bytes (flat_map insns_of pieces) ≡ concat pieces
pieces_again [] each are = refl
pieces_again (piece ∷ pieces) each are =
    let parts = bytes_parts piece (concat pieces) are in
    flat_map-append slot_bytes (insns_of piece) (flat_map insns_of pieces)
    ∙ ap (λ xs. xs ++ flat_map slot_bytes (flat_map insns_of pieces)) (piece_again piece each.0.0 each.0.1 parts.0 ((form_of each.0.0).opcode == 0x18) refl)
    ∙ ap (λ xs. piece ++ xs) (pieces_again pieces each.1 parts.1)

pub bytes_decoded : (bytes : List ℕ) (r : Result (List Insn) DecodeEnd) → ((i : ℕ) → get_or bytes i 0 < 2 ^ 8) → IsDecoded bytes r → IfOk r (λ insns. flat_map slot_bytes insns ≡ bytes)
bytes_decoded bytes (Ok insns) fits (split, done, is) =
    let joined : bytes ≡ concat split.pieces = split.joined ∙ ap (λ xs. concat split.pieces ++ xs) done ∙ append-nil (concat split.pieces) in
    let are : AreBytes bytes = recursion_from_All (λ b. b < 2 ^ 8) bytes (λ k d within. subst (λ b. b < 2 ^ 8) (get_or_default bytes k 0 d within) (fits k)) in
    ap (flat_map slot_bytes) is ∙ pieces_again split.pieces split.each (subst AreBytes joined are) ∙ sym joined
bytes_decoded bytes (Err e) fits decoded = tt
