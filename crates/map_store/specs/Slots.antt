-- A map is a list of slots, each empty or a pair of key and value.
use Rattle.std.specs.Prelude.{ℕ, Bool, true, false, nat_eq, List, [], length, map, slice_index_or, slice_set, position, Option, Some, None}
use Rattle.std.specs.Cmp.Lexicographic.{pointwise}
use Rattle.map_store.specs.declared.spec.MapKind.{MapKind}
use Rattle.map_store.specs.declared.spec.MapKind.TheVariants.{Hash, Array, PercpuHash, PercpuArray}

pub record Entry : Type 0 where
  pub key : List ℕ
  pub value : List ℕ

pub record Map : Type 0 where
  pub kind : MapKind
  -- in bytes
  pub key_size : ℕ
  pub value_size : ℕ
  pub slots : List (Option Entry)

-- what stays of a map for ever
pub record Shape : Type 0 where
  pub kind : MapKind
  pub key_size : ℕ
  pub value_size : ℕ
  pub entries : ℕ

abbrev pub shape_of : Map → Shape
shape_of map = record { kind = map.kind; key_size = map.key_size; value_size = map.value_size; entries = length map.slots }

abbrev pub shapes : List Map → List Shape
shapes maps = map shape_of maps

-- the map of this number; the one for a number that is none doesn't matter
abbrev pub map_at : List Map → ℕ → Map
map_at maps map = slice_index_or maps map (record { kind = Hash; key_size = 0; value_size = 0; slots = [] })

-- the maps with another one in place of the map of this number
abbrev pub with_map : List Map → ℕ → Map → List Map
with_map maps map new = slice_set maps map new

-- programs read maps of these kinds and don't change them
abbrev pub is_shared : MapKind → Bool
is_shared Hash = true
is_shared Array = true
is_shared PercpuHash = false
is_shared PercpuArray = false

abbrev pub is_array : MapKind → Bool
is_array Array = true
is_array PercpuArray = true
is_array Hash = false
is_array PercpuHash = false

abbrev pub has_key : List ℕ → Option Entry → Bool
has_key key None = false
has_key key (Some entry) = pointwise nat_eq entry.key key

abbrev pub is_empty : Option Entry → Bool
is_empty None = true
is_empty (Some entry) = false

-- the place of a key
unfoldable pub place_of : List ℕ → List (Option Entry) → Option ℕ
place_of key slots = position (has_key key) slots

-- the least empty place
unfoldable pub least_empty : List (Option Entry) → Option ℕ
least_empty slots = position is_empty slots

-- the slots with an entry at a place, and with the place emptied
abbrev pub with_entry : List (Option Entry) → ℕ → Entry → List (Option Entry)
with_entry slots place entry = slice_set slots place (Some entry)

abbrev pub emptied : List (Option Entry) → ℕ → List (Option Entry)
emptied slots place = slice_set slots place None
