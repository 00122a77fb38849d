-- The rows and parts of types, one type after the other.
use Rattle.std.proofs.Common.{◌≡◌, ℕ, ◌+◌, ◌<◌, List, [], ◌∷◌, ◌++◌, drop, length, refl, append_assoc}
use Rattle.std.specs.List.{flat_map}
use Rattle.btf_types.specs.declared.types.TypeRow.{TypeRow}
use Rattle.btf_types.specs.declared.types.Part.{Part}
use Rattle.btf_types.specs.TypeBytes.{parts_of, row_of, type_length}
use Rattle.btf_types.specs.Sections.{types_in}
use Rattle.btf_types.specs.Reading.{rows_from}
use Rattle.btf_types.proofs.TypesIn.{types_in_more}

-- a type's row stands in front of those of the types behind it
pub rows_more : (rows : List TypeRow) (first : ℕ) (bytes : List ℕ) → 0 < length bytes → (rows ++ row_of first bytes ∷ []) ++ rows_from (first + length (parts_of bytes)) (types_in (drop (type_length bytes) bytes)) ≡ rows ++ rows_from first (types_in bytes)
rows_more rows first bytes h = rw (types_in_more bytes h, append_assoc) refl

pub parts_more : (parts : List Part) (bytes : List ℕ) → 0 < length bytes → (parts ++ parts_of bytes) ++ flat_map parts_of (types_in (drop (type_length bytes) bytes)) ≡ parts ++ flat_map parts_of (types_in bytes)
parts_more parts bytes h = rw (types_in_more bytes h, append_assoc) refl
