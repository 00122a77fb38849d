-- Pieces and parts, one behind the other.
use Rattle.std.proofs.Common.{◌≡◌, ℕ, ◌+◌, ◌<◌, ◌≤◌, zero, suc, Bool, IsTrue, List, [], ◌∷◌, ◌++◌, length, drop, get_or, refl, sym, ◌∙◌, ap, append-nil, append_assoc, arith, drop-cons}
use Rattle.std.proofs.lemmas.List.{drop_all, length-append}
use Rattle.std.proofs.lemmas.Bool.{and_parts}
use Rattle.std.specs.Borrow.{Bor}
use Rattle.std.specs.List.{list_all}
use Rattle.pcapng_text.specs.Parts.{framed, is_short, joined, part_bytes, parts_bytes}
use Rattle.pcapng_text.specs.declared.parts.Part.{Part}

joined-cons : (piece : Bor (List ℕ)) (more : List (Bor (List ℕ))) → joined (piece ∷ more) ≡ piece.now ++ joined more
joined-cons piece [] = sym (append-nil piece.now)
joined-cons piece (next ∷ more) = refl

-- the piece at a place, and those behind it
pub joined-drop : (pieces : List (Bor (List ℕ))) (place : ℕ) (none : Bor (List ℕ)) → place < length pieces
    → joined (drop place pieces) ≡ (get_or pieces place none).now ++ joined (drop (place + 1) pieces)
joined-drop pieces place none within =
    let next : suc place ≡ place + 1 = omega arith in
    ap joined (drop-cons pieces place none within) ∙ (joined-cons (get_or pieces place none) (drop (suc place) pieces)
    ∙ ap (λ n. (get_or pieces place none).now ++ joined (drop n pieces)) next)

-- behind the last one
pub joined-none : (pieces : List (Bor (List ℕ))) (place : ℕ) → length pieces ≤ place → joined (drop place pieces) ≡ []
joined-none pieces place past = ap joined (drop_all place pieces past)

parts-cons : (part : Part) (more : List Part) → parts_bytes (part ∷ more) ≡ part_bytes part ++ parts_bytes more
parts-cons part [] = sym (append-nil (part_bytes part))
parts-cons part (next ∷ more) = refl

pub parts-drop : (parts : List Part) (place : ℕ) (none : Part) → place < length parts
    → parts_bytes (drop place parts) ≡ part_bytes (get_or parts place none) ++ parts_bytes (drop (place + 1) parts)
parts-drop parts place none within =
    let next : suc place ≡ place + 1 = omega arith in
    ap parts_bytes (drop-cons parts place none within) ∙ (parts-cons (get_or parts place none) (drop (suc place) parts)
    ∙ ap (λ n. part_bytes (get_or parts place none) ++ parts_bytes (drop n parts)) next)

pub parts-none : (parts : List Part) (place : ℕ) → length parts ≤ place → parts_bytes (drop place parts) ≡ []
parts-none parts place past = ap parts_bytes (drop_all place parts past)

-- a size that was counted so far, and what is left
pub counted : (whole part more : List ℕ) (left : List ℕ) (size n : ℕ) → left ≡ part ++ more → size + length left ≡ length whole → n ≡ length part → size + n + length more ≡ length whole
counted whole part more left size n is so_far has = omega (arith, so_far, has, ap length is, length-append part more)

-- a part of short ones
pub short-at : (parts : List Part) (place : ℕ) (none : Part) → place < length parts → IsTrue (list_all is_short parts) → IsTrue (is_short (get_or parts place none))
short-at [] place none within all = absurd (omega (arith, within))
short-at (part ∷ parts) zero none within all = (and_parts (is_short part) (list_all is_short parts) all).0
short-at (part ∷ parts) (suc place) none within all =
    short-at parts place none (omega (arith, within)) (and_parts (is_short part) (list_all is_short parts) all).1
