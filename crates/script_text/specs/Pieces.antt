-- The pieces of printed lines.
use Rattle.std.specs.Prelude.{ℕ, ◌-◌, List, [], ◌∷◌, ◌++◌, codes, if◌then◌else◌}
use Rattle.std.specs.Fmt.{decimal}
use Rattle.filter_rules.specs.Rule.{has_one_of}
use Rattle.hex.specs.Hex.{encode_lower}
use Rattle.script_text.specs.declared.piece.Piece.{Piece}
use Rattle.script_text.specs.declared.piece.Piece.TheVariants.{Text, Number, Digits, Listed}

-- in a list of the names of the bits that are set: the name of this bit, behind a comma where a lower one is set too
abbrev pub listed : ℕ → ℕ → List ℕ → List ℕ
listed bits bit name =
    if has_one_of bits bit then (if has_one_of bits (bit - 1) then codes "," ++ name else name) else []

abbrev pub piece_text : Piece → List ℕ
piece_text (Text text) = text.now
piece_text (Number number) = decimal number
piece_text (Digits bytes) = encode_lower bytes.now
piece_text (Listed bits bit name) = listed bits bit name.now

-- pieces, one behind the other
abbrev pub line_of : List Piece → List ℕ
line_of [] = []
line_of (piece ∷ []) = piece_text piece
line_of (piece ∷ more) = piece_text piece ++ line_of more
