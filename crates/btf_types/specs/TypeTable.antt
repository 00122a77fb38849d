-- What callers know of the types that were read: the value of `Types`.
use Rattle.std.specs.Prelude.{◌≡◌, ℕ, zero, suc, ◌+◌, ◌<◌, ◌≤◌, ◌^◌, IsTrue, Bool, ◌==◌, ◌&&◌, List, length, drop, slice_get, position, Option, None}
use Rattle.std.specs.List.{before_first, AllByRecursion}
use Rattle.std.specs.Option.{option_map}
use Rattle.std.specs.Str.{bytes_eq}
use Rattle.btf_types.specs.declared.types.TypeRow.{TypeRow}
use Rattle.btf_types.specs.declared.types.Part.{Part}
use Rattle.btf_types.specs.Kind.{ARRAY, DATASEC, has_target}

pub record TypeTable : Type 0 where
  pub rows : List TypeRow
  pub parts : List Part
  pub strings : List ℕ

-- types are numbered from 1; 0 is void, which has no row
abbrev pub type_at : TypeTable → ℕ → Option TypeRow
type_at types zero = None
type_at types (suc place) = slice_get types.rows place

-- the string at a place: the bytes up to a zero byte
abbrev pub name_at : TypeTable → ℕ → List ℕ
name_at types place = before_first (λ byte. byte == 0) (drop place types.strings)

abbrev pub is_section_named : TypeTable → List ℕ → TypeRow → Bool
is_section_named types name row = (row.kind == DATASEC) && bytes_eq (name_at types row.name) name

-- the number of the first section of a name
abbrev pub section_vars : TypeTable → List ℕ → Option ℕ
section_vars types name = option_map (λ place. place + 1) (position (is_section_named types name) types.rows)

-- a row's name, parts and target are there, its parts' numbers are below 2 ^ 32, and an array has one part
pub record RowFits (types : TypeTable) (row : TypeRow) : Type 0 where
  pub name : row.name < length types.strings
  pub parts : row.first + row.count ≤ length types.parts
  pub numbers : row.first + row.count < 2 ^ 32
  pub target : IsTrue (has_target row.kind) → row.size_or_target ≤ length types.rows
  pub array : row.kind ≡ ARRAY → row.count ≡ 1

-- a part's name and type are there
pub record PartFits (types : TypeTable) (part : Part) : Type 0 where
  pub name : part.name < length types.strings
  pub target : part.target ≤ length types.rows

pub record IsSound (types : TypeTable) : Type 0 where
  pub rows : AllByRecursion (RowFits types) types.rows
  pub parts : AllByRecursion (PartFits types) types.parts
