-- The parts that are printed make up the blocks.
use Rattle.std.proofs.Common.{◌≡◌, ℕ, ◌+◌, ◌/◌, ◌%◌, ◌^◌, ◌<◌, Bool, true, IsTrue, List, [], ◌∷◌, ◌++◌, length, Result, Ok, Err, refl, sym, ◌∙◌, ap, subst, append_assoc, arith}
use Rattle.std.proofs.lemmas.List.{length-append}
use Rattle.std.specs.Prelude.{IsErr}
use Rattle.xio.proofs.PrintLemmas.{prints_stop}
use Rattle.xio.specs.Printing.{PrinterState, Prints}
use Rattle.pcapng_text.specs.Options.{padded}
use Rattle.pcapng_text.specs.Parts.{framed}
use Rattle.pcapng_text.specs.Written.{block_bytes, block_size, comment, end_of_options, fields_of, interface_bytes, interface_fields, interface_options, option_bytes, packet_bytes, packet_fields, packet_options, packet_size, padding, section_bytes, u16_bytes, u32_bytes, u64_bytes, verdict_option}
use Rattle.pcapng_text.specs.declared.packet_options.PacketOptions.{PacketOptions}
use Rattle.pcapng_text.proofs.Lengths.{length-option, length-padding, padded-le}

-- what is printed is a text that is the same
pub printed_same : {S E : Type 0} {told counted : Bool} {old new : PrinterState S} {text wanted : List ℕ} {result : Result Unit E} → Prints told counted old new text result → text ≡ wanted
    → Prints told counted old new wanted result
printed_same {told = told} {counted = counted} {old = old} {new = new} {result = result} prints same = subst (λ xs. Prints told counted old new xs result) same prints

-- what holds of a text holds of a list of bytes that it alone is printed to
pub printed_alone : {S E : Type 0} {counted : Bool} (P : List ℕ → Type 0) {old new : PrinterState S} {text : List ℕ} → Prints {E = E} true counted old new text (Ok tt) → old.text ≡ []
    → P text → P new.text
printed_alone P {text = text} prints none holds = subst P (sym (prints.printed refl ∙ ap (λ xs. xs ++ text) none)) holds

-- a text whose printing ended, in front of two others
pub stops_before_two : {S E F : Type 0} {told counted : Bool} {a b : PrinterState S} {t : List ℕ} {e : E} (t' t'' : List ℕ) (result : Result Unit F) → IsErr result
    → Prints told counted a b t (let r : Result Unit E = Err e in r) → Prints told counted a b (t ++ t' ++ t'') result
stops_before_two {E = E} {e = e} t' t'' result is_err p = prints_stop t'' result is_err (prints_stop t' (let r : Result Unit E = Err e in r) refl p)

-- fields, padded data and options between two lengths
length-body : (fields content options : List ℕ) → 12 + length (fields ++ (content ++ (padding (length content) ++ options))) ≡ block_size fields content options
unfolding block_size
length-body fields content options = simp length-append (omega (arith, length-padding (length content)))

regroup : (a b c d e : List ℕ) → a ++ (b ++ (c ++ d)) ++ e ≡ a ++ b ++ c ++ d ++ e
regroup a b c d e = simp append_assoc

pub framed-block : (kind : ℕ) (fields content options : List ℕ) → framed kind (fields ++ (content ++ (padding (length content) ++ options))) ≡ block_bytes kind fields content options
unfolding framed block_bytes
framed-block kind fields content options =
    let last = u32_bytes (block_size fields content options) in
    rw (length-body fields content options) (ap (λ xs. u32_bytes kind ++ (last ++ xs)) (regroup fields content (padding (length content)) options last))

abbrev pub section_parts : List ℕ
section_parts = u32_bytes 0x1A2B3C4D ++ (u16_bytes 1 ++ (u16_bytes 0 ++ (u32_bytes 0xFFFFFFFF ++ u32_bytes 0xFFFFFFFF)))

pub framed-section : framed 0x0A0D0D0A section_parts ≡ section_bytes
unfolding framed section_bytes block_bytes block_size padding padded
framed-section = refl

abbrev pub interface_parts : List ℕ → ℕ → List ℕ
interface_parts name snap = u16_bytes 1 ++ (u16_bytes 0 ++ (u32_bytes snap ++ (option_bytes 2 name ++ (option_bytes 9 (9 ∷ []) ++ end_of_options))))

interface-split : (name : List ℕ) (snap : ℕ) → interface_parts name snap ≡ interface_fields snap ++ ([] ++ (padding 0 ++ interface_options name))
unfolding padding padded
interface-split name snap = ap (λ xs. interface_fields snap ++ xs) (sym (append_assoc (option_bytes 2 name) (option_bytes 9 (9 ∷ [])) end_of_options))

pub framed-interface : (name : List ℕ) (snap : ℕ) → framed 1 (interface_parts name snap) ≡ interface_bytes name snap
unfolding interface_bytes
framed-interface name snap = ap (framed 1) (interface-split name snap) ∙ framed-block 1 (interface_fields snap) [] (interface_options name)

pub length-interface : (name : List ℕ) (snap : ℕ) → length name < 2 ^ 16 → 12 + length (interface_parts name snap) < 2 ^ 32
length-interface name snap short =
    let parts : length (interface_parts name snap) ≡ 8 + (length (option_bytes 2 name) + (length (option_bytes 9 (9 ∷ [])) + 4)) = simp length-append (omega arith) in
    omega (arith, parts, short, length-option 2 name, length-option 9 (9 ∷ []), padded-le (length name), padded-le 1)

abbrev pub packet_parts : ℕ → ℕ → ℕ → ℕ → List ℕ → PacketOptions → List ℕ
packet_parts number upper lower size kept told =
    u32_bytes number ++ (u32_bytes upper ++ (u32_bytes lower ++ (u32_bytes (length kept) ++ (u32_bytes size ++ ((kept ++ padding (length kept))
    ++ (option_bytes 1 (comment told.publication) ++ (option_bytes 5 (u64_bytes told.id) ++ (option_bytes 6 (u32_bytes told.queue) ++ (verdict_option told.verdict ++ end_of_options)))))))))

packet-split : (number upper lower size : ℕ) (kept : List ℕ) (told : PacketOptions)
    → packet_parts number upper lower size kept told ≡ fields_of number upper lower (length kept) size ++ (kept ++ (padding (length kept) ++ packet_options told))
unfolding packet_options
packet-split number upper lower size kept told = simp append_assoc refl

pub framed-packet : (number timestamp upper lower size : ℕ) (kept : List ℕ) (told : PacketOptions) → upper ≡ timestamp / 2 ^ 32 → lower ≡ timestamp % 2 ^ 32
    → framed 6 (packet_parts number upper lower size kept told) ≡ packet_bytes number timestamp size kept told
unfolding packet_bytes
framed-packet number timestamp upper lower size kept told is_upper is_lower =
    ap (framed 6) (packet-split number upper lower size kept told)
    ∙ (framed-block 6 (fields_of number upper lower (length kept) size) kept (packet_options told)
    ∙ rw (is_upper, is_lower) refl)

pub length-packet_parts : (number upper lower size : ℕ) (kept : List ℕ) (told : PacketOptions) → 12 + length (packet_parts number upper lower size kept told) ≡ packet_size kept told
unfolding packet_size block_size
length-packet_parts number upper lower size kept told =
    ap (λ xs. 12 + length xs) (packet-split number upper lower size kept told) ∙ length-body (fields_of number upper lower (length kept) size) kept (packet_options told)

-- a length that fits
pub short-packet : (kept : List ℕ) (told : PacketOptions) → packet_size kept told < 2 ^ 32 → length kept < 2 ^ 32
unfolding packet_size
short-packet kept told fits = omega (arith, fits, length-padding (length kept))
