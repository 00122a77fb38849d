-- The types that bytes hold.
use Rattle.std.specs.Prelude.{ℕ, ◌+◌, List, [], ◌∷◌, length}
use Rattle.std.specs.List.{flat_map}
use Rattle.btf_types.specs.declared.types.TypeRow.{TypeRow}
use Rattle.btf_types.specs.TypeBytes.{parts_of, row_of}
use Rattle.btf_types.specs.Sections.{type_section, strings_of, types_in}
use Rattle.btf_types.specs.TypeTable.{TypeTable}

-- the rows of types, the first of whose parts has this number
abbrev pub rows_from : ℕ → List (List ℕ) → List TypeRow
rows_from first [] = []
rows_from first (head ∷ types) = row_of first head ∷ rows_from (first + length (parts_of head)) types

unfoldable pub types_of : List ℕ → TypeTable
types_of bytes =
    let types = types_in (type_section bytes) in
    record { rows = rows_from 0 types; parts = flat_map parts_of types; strings = strings_of bytes }
