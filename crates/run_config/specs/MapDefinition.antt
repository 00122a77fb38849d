-- What a map's definition says, and the rules M1 to M5 that it keeps.
use Rattle.std.specs.Prelude.{◌≡◌, ℕ, ◌==◌, ◌||◌, Bool, false, not, nat_lt, List, [], codes, Option, Some, None, unwrap_or, Result, Ok, Err, if◌then◌else◌}
use Rattle.std.specs.Option.{option_or}
use Rattle.btf_types.specs.declared.types.TypeRow.{TypeRow}
use Rattle.btf_types.specs.Kind.{STRUCT}
use Rattle.btf_types.specs.TypeTable.{TypeTable, type_at}
use Rattle.map_store.specs.declared.spec.MapKind.{MapKind}
use Rattle.map_store.specs.declared.spec.MapKind.TheVariants.{Hash, Array, PercpuHash, PercpuArray}
use Rattle.map_store.specs.declared.spec.MapSpec.{MapSpec}
use Rattle.run_config.specs.Values.{Named, last_value}
use Rattle.run_config.specs.Variables.{parts_of}
use Rattle.run_config.specs.MapMembers.{ReadsAll}

-- the kinds of maps by their numbers in the kernel (`enum bpf_map_type`)
unfoldable pub kind_of : ℕ → Option MapKind
kind_of number =
    if number == 1 then Some Hash
    else if number == 2 then Some Array
    else if number == 5 then Some PercpuHash
    else if number == 6 then Some PercpuArray
    else None

-- both are there, and not one number
abbrev pub differ : Option ℕ → Option ℕ → Bool
differ (Some one) (Some other) = not (one == other)
differ None other = false
differ (Some one) None = false

-- a size is given as a number or as that of a type
abbrev pub size_from : Option ℕ → Option ℕ → ℕ
size_from number type = unwrap_or (option_or number type) 0

-- a map by the numbers that its members give: what isn't given is 0
unfoldable pub spec_from : List Named → MapKind → MapSpec
spec_from values kind = record {
  kind = kind;
  key_size = size_from (last_value (codes "key_size") values) (last_value (codes "key") values);
  value_size = size_from (last_value (codes "value_size") values) (last_value (codes "value") values);
  max_entries = unwrap_or (last_value (codes "max_entries") values) 0;
  initial = [];
}

-- sizes that differ from those of the types, or flags above 1
unfoldable pub is_contrary : List Named → Bool
is_contrary values =
    differ (last_value (codes "key_size") values) (last_value (codes "key") values)
    || differ (last_value (codes "value_size") values) (last_value (codes "value") values)
    || nat_lt 1 (unwrap_or (last_value (codes "map_flags") values) 0)

abbrev pub with_kind : List Named → Option MapKind → Result MapSpec ℕ
with_kind values None = Err 5
with_kind values (Some kind) = Ok (spec_from values kind)

-- the map of these numbers, or the first of the rules 4 and 5 that they break
unfoldable pub spec_of : List Named → Result MapSpec ℕ
spec_of values =
    if is_contrary values then Err 4
    else with_kind values (kind_of (unwrap_or (last_value (codes "type") values) 0))

-- the row of a structure, with no modifier in front
pub record IsPlainStructure (types : TypeTable) (number : ℕ) (structure : TypeRow) : Type 0 where
  pub row : type_at types number ≡ Some structure
  pub kind : structure.kind ≡ STRUCT

-- the map that a type defines, or the first of the rules M1 to M5 that it breaks
pub data Defines (types : TypeTable) (number : ℕ) : Result MapSpec ℕ → Type 0 where
  no_structure : ((structure : TypeRow) → IsPlainStructure types number structure → ⊥) → Defines types number (Err 1)
  bad_member : {structure : TypeRow} {rule : ℕ} → IsPlainStructure types number structure
      → ReadsAll types (parts_of types structure) (Err rule) → Defines types number (Err rule)
  by_members : {structure : TypeRow} {values : List Named} → IsPlainStructure types number structure
      → ReadsAll types (parts_of types structure) (Ok values) → Defines types number (spec_of values)
