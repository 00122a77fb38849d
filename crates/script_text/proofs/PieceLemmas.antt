-- Pieces and digits, part by part.
use Rattle.std.proofs.Common.{◌≡◌, ℕ, ◌+◌, ◌<◌, ◌≤◌, suc, List, [], ◌∷◌, ◌++◌, length, take, drop, get_or, refl, sym, ◌∙◌, ap, append-nil, arith, drop-cons}
use Rattle.std.proofs.lemmas.List.{take-append-drop, drop_all}
use Rattle.hex.specs.Hex.{encode_with, encode_lower, lower_digits}
use Rattle.script_text.specs.Pieces.{piece_text, line_of}
use Rattle.script_text.specs.declared.piece.Piece.{Piece}

line_of-cons : (piece : Piece) (more : List Piece) → line_of (piece ∷ more) ≡ piece_text piece ++ line_of more
line_of-cons piece [] = sym (append-nil (piece_text piece))
line_of-cons piece (next ∷ more) = refl

-- the piece at a place, and those behind it
pub line_of-drop : (pieces : List Piece) (place : ℕ) (none : Piece) → place < length pieces
    → line_of (drop place pieces) ≡ piece_text (get_or pieces place none) ++ line_of (drop (place + 1) pieces)
line_of-drop pieces place none within =
    let next : suc place ≡ place + 1 = omega arith in
    ap line_of (drop-cons pieces place none within) ∙ (line_of-cons (get_or pieces place none) (drop (suc place) pieces)
    ∙ ap (λ n. piece_text (get_or pieces place none) ++ line_of (drop n pieces)) next)

-- behind the last piece
pub line_of-none : (pieces : List Piece) (place : ℕ) → length pieces ≤ place → line_of (drop place pieces) ≡ []
line_of-none pieces place past = ap line_of (drop_all place pieces past)

-- the digits of a front and of what is behind it
encode_with-append : (digits front behind : List ℕ) → encode_with digits (front ++ behind) ≡ encode_with digits front ++ encode_with digits behind
unfolding encode_with
encode_with-append digits [] behind = refl
encode_with-append digits (byte ∷ front) behind = rw (encode_with-append digits front behind) refl

pub encode_lower-split : (bytes : List ℕ) (n : ℕ) → encode_lower bytes ≡ encode_lower (take n bytes) ++ encode_lower (drop n bytes)
encode_lower-split bytes n = ap encode_lower (sym (take-append-drop n bytes)) ∙ encode_with-append lower_digits (take n bytes) (drop n bytes)

pub encode_lower-none : (bytes : List ℕ) → length bytes ≡ 0 → encode_lower bytes ≡ []
unfolding encode_with
encode_lower-none [] none = refl
encode_lower-none (byte ∷ bytes) none = absurd (omega arith)
