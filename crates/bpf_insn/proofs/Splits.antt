-- Decoding piece by piece, and that it has one answer.
use Rattle.std.proofs.Common.{◌≡◌, ◌≢◌, ◌<◌, ℕ, List, [], ◌∷◌, ◌++◌, length, take, drop, refl, sym, ap, subst, ◌∙◌, arith, Result, Ok, Err, Bool, true, false}
use Rattle.std.specs.Prelude.{◌==◌, if◌then◌else◌}
use Rattle.std.proofs.lemmas.Bool.Decides.{nat_tests}
use Rattle.std.specs.List.{concat, flat_map, AllByRecursion}
use Rattle.std.proofs.lemmas.List.{append_assoc, append-nil, take-append-drop}
use Rattle.std.proofs.lemmas.List.Concat.{flat_map-append}
use Rattle.bpf_insn.specs.declared.decoding.DecodeEnd.{DecodeEnd}
use Rattle.bpf_insn.specs.declared.decoding.DecodeEnd.TheVariants.{BadInsn, OutOfMemory}
use Rattle.bpf_insn.specs.declared.insn.Insn.{Insn}
use Rattle.bpf_insn.specs.Code.{IsPiece, insns_of, Split, Decodes, IsDecoded, Gives}
use Rattle.bpf_insn.specs.Insn.{slot, half_of}
use Rattle.bpf_insn.proofs.Pieces.{Begins-piece, same_split}

-- the pieces so far, their instructions, and the bytes that are left
pub record Front (bytes rest : List ℕ) (insns : List Insn) : Type 0 where
  pub pieces : List (List ℕ)
  pub each : AllByRecursion IsPiece pieces
  pub joined : bytes ≡ concat pieces ++ rest
  pub made : insns ≡ flat_map insns_of pieces

pub Front-none : (bytes : List ℕ) → Front bytes bytes []
Front-none bytes = record { pieces = []; each = tt; joined = refl; made = refl }

concat-push : (pieces : List (List ℕ)) (piece : List ℕ) → concat (pieces ++ piece ∷ []) ≡ concat pieces ++ piece
concat-push [] piece = append-nil piece
concat-push (p ∷ pieces) piece = ap (λ xs. p ++ xs) (concat-push pieces piece) ∙ sym (append_assoc p (concat pieces) piece)

each-push : (pieces : List (List ℕ)) (piece : List ℕ) → AllByRecursion IsPiece pieces → IsPiece piece → AllByRecursion IsPiece (pieces ++ piece ∷ [])
each-push [] piece each last = (last, tt)
each-push (p ∷ pieces) piece each last = (each.0, each-push pieces piece each.1 last)

Front-more : (bytes rest : List ℕ) (insns more : List Insn) (n : ℕ) → Front bytes rest insns → IsPiece (take n rest) → more ≡ insns ++ insns_of (take n rest) → Front bytes (drop n rest) more
Front-more bytes rest insns more n front piece added = record {
  pieces = front.pieces ++ take n rest ∷ [];
  each = each-push front.pieces (take n rest) front.each piece;
  joined = front.joined ∙ ap (λ xs. concat front.pieces ++ xs) (sym (take-append-drop n rest)) ∙ sym (append_assoc (concat front.pieces) (take n rest) (drop n rest)) ∙ ap (λ xs. xs ++ drop n rest) (sym (concat-push front.pieces (take n rest)));
  made = added ∙ ap (λ xs. xs ++ insns_of (take n rest)) front.made ∙ ap (λ xs. flat_map insns_of front.pieces ++ xs) (sym (append-nil (insns_of (take n rest)))) ∙ sym (flat_map-append insns_of front.pieces (take n rest ∷ []));
}

-- the same of the two parts that were cut
pub Front-cut : (bytes rest piece after : List ℕ) (insns more : List Insn) (n : ℕ) → Front bytes rest insns → IsPiece (take n rest) → piece ≡ take n rest → after ≡ drop n rest → more ≡ insns ++ insns_of piece → Front bytes after more
Front-cut bytes rest piece after insns more n front is_piece first behind added =
    subst (λ xs. Front bytes xs more) (sym behind) (Front-more bytes rest insns more n front is_piece (added ∙ ap (λ xs. insns ++ insns_of xs) first))

split_of : (bytes rest : List ℕ) (insns : List Insn) → Front bytes rest insns → ((n : ℕ) → IsPiece (take n rest) → ⊥) → Split bytes
split_of bytes rest insns front last = record { pieces = front.pieces; rest = rest; each = front.each; joined = front.joined; last = last }

pub Decodes-whole : (bytes rest : List ℕ) (insns : List Insn) → Front bytes rest insns → rest ≡ [] → Decodes bytes (Ok insns)
unfolding split_of
Decodes-whole bytes rest insns front done =
    (split_of bytes rest insns front (λ n piece. let long = (Begins-piece n rest piece).long in let none = ap length done in absurd (omega arith)), done, front.made)

pub Decodes-bad : (bytes rest : List ℕ) (insns : List Insn) → Front bytes rest insns → (index : ℕ) → index ≡ length insns → rest ≢ [] → ((n : ℕ) → IsPiece (take n rest) → ⊥) → Decodes bytes (Err index)
unfolding split_of
Decodes-bad bytes rest insns front index is more last = (split_of bytes rest insns front last, more, is ∙ ap length front.made)

-- what a test for an empty rest says
pub emptied : (rest : List ℕ) (r : Bool) → r ≡ (length rest == 0) → r ≡ true → rest ≡ []
emptied [] r is test = refl
emptied (b ∷ rest) r is test = absurd (grind (arith, nat_tests))

pub filled : (rest : List ℕ) (r : Bool) → r ≡ (length rest == 0) → r ≡ false → rest ≢ []
filled rest r is test none = let e = ap (λ xs. length xs == 0) none in cc

pub insns_of-wide : (piece : List ℕ) → 8 < length piece → insns_of piece ≡ slot piece ∷ half_of (slot (drop 8 piece)) ∷ []
insns_of-wide piece long = let wide : (length piece == 8) ≡ false = grind (arith, nat_tests) in ap (λ b. if b then slot piece ∷ [] else slot piece ∷ half_of (slot (drop 8 piece)) ∷ []) wide

pub insns_of-narrow : (piece : List ℕ) → length piece ≡ 8 → insns_of piece ≡ slot piece ∷ []
insns_of-narrow piece size = ap (λ n. if n == 8 then slot piece ∷ [] else slot piece ∷ half_of (slot (drop 8 piece)) ∷ []) size

-- both slots of a wide load are pushed
pub wide_pushed : (insns one two : List Insn) (piece rest : List ℕ) (first second : Insn) → 8 < length piece → rest ≡ drop 8 piece → first ≡ slot piece → second ≡ slot rest → one ≡ insns ++ first ∷ [] → two ≡ one ++ half_of second ∷ [] → two ≡ insns ++ insns_of piece
wide_pushed insns one two piece rest first second long behind first_is second_is one_is two_is =
    two_is ∙ ap (λ xs. xs ++ half_of second ∷ []) one_is ∙ append_assoc insns (first ∷ []) (half_of second ∷ [])
    ∙ ap (λ i. insns ++ i ∷ half_of second ∷ []) first_is
    ∙ ap (λ i. insns ++ slot piece ∷ half_of i ∷ []) (second_is ∙ ap slot behind)
    ∙ ap (λ xs. insns ++ xs) (sym (insns_of-wide piece long))

-- two splits of the same bytes are one
same_parts : (bytes : List ℕ) (s t : Split bytes) → (s.pieces ≡ t.pieces) × (s.rest ≡ t.rest)
same_parts bytes s t = same_split s.pieces t.pieces s.rest t.rest s.each t.each s.last t.last (sym s.joined ∙ t.joined)

one_answer : (bytes : List ℕ) (a b : Result (List Insn) ℕ) → Decodes bytes a → Decodes bytes b → a ≡ b
one_answer bytes (Ok xs) (Ok ys) (s, s_ends, xs_is) (t, t_ends, ys_is) = ap Ok (xs_is ∙ ap (flat_map insns_of) (same_parts bytes s t).0 ∙ sym ys_is)
one_answer bytes (Ok xs) (Err j) (s, s_ends, xs_is) (t, t_goes, j_is) = absurd (t_goes (sym (same_parts bytes s t).1 ∙ s_ends))
one_answer bytes (Err i) (Ok ys) (s, s_goes, i_is) (t, t_ends, ys_is) = absurd (s_goes ((same_parts bytes s t).1 ∙ t_ends))
one_answer bytes (Err i) (Err j) (s, s_goes, i_is) (t, t_goes, j_is) = ap Err (i_is ∙ ap (λ ps. length (flat_map insns_of ps)) (same_parts bytes s t).0 ∙ sym j_is)

pub Gives-decoded : (bytes : List ℕ) (r : Result (List Insn) DecodeEnd) → IsDecoded bytes r → (answer : Result (List Insn) ℕ) → Decodes bytes answer → Gives r answer
Gives-decoded bytes (Ok insns) decoded answer other = one_answer bytes answer (Ok insns) other decoded
Gives-decoded bytes (Err (BadInsn index)) decoded answer other = one_answer bytes answer (Err index) other decoded
Gives-decoded bytes (Err OutOfMemory) decoded answer other = tt
