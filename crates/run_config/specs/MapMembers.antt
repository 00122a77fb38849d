-- The members of a map's definition, as libbpf's `__uint` and `__type` write them.
use Rattle.std.specs.Prelude.{◌≡◌, ℕ, ◌≤◌, false, true, Bool, List, [], ◌∷◌, codes, slice_get, Some, Result, Ok, Err}
use Rattle.std.specs.List.{list_any}
use Rattle.std.specs.Str.{bytes_eq}
use Rattle.btf_types.specs.declared.types.Part.{Part}
use Rattle.btf_types.specs.declared.types.TypeRow.{TypeRow}
use Rattle.btf_types.specs.Kind.{PTR}
use Rattle.btf_types.specs.Size.{HasSize}
use Rattle.btf_types.specs.TypeTable.{TypeTable, name_at, type_at}
use Rattle.run_config.specs.Counted.{Counts}
use Rattle.run_config.specs.Values.{Named, Paired}

-- members that give a number
unfoldable pub is_number : List ℕ → Bool
is_number name = list_any (bytes_eq name) (codes "type" ∷ codes "max_entries" ∷ codes "key_size" ∷ codes "value_size" ∷ codes "map_flags" ∷ codes "pinning" ∷ [])

-- members that give the size of a type
unfoldable pub is_size : List ℕ → Bool
is_size name = list_any (bytes_eq name) (codes "key" ∷ codes "value" ∷ [])

-- a type points to another, with no modifier in front
pub record Points (types : TypeTable) (number target : ℕ) : Type 0 where
  pub pointer : TypeRow
  pub row : type_at types number ≡ Some pointer
  pub kind : pointer.kind ≡ PTR
  pub refers : pointer.size_or_target ≡ target

-- a member's name with the number that it gives, or the rule that it breaks:
-- 2 for another name, 3 for another form, 4 for a type that has no size
pub data Reads (types : TypeTable) (member : Part) : Result Named ℕ → Type 0 where
  reads_number : {value : ℕ} → is_number (name_at types member.name) ≡ true → Counts types member.target value
      → Reads types member (Ok (record { name = name_at types member.name; value = value }))
  reads_size : {target size : ℕ} → is_size (name_at types member.name) ≡ true → Points types member.target target
      → HasSize types target size
      → Reads types member (Ok (record { name = name_at types member.name; value = size }))
  is_other : is_number (name_at types member.name) ≡ false → is_size (name_at types member.name) ≡ false
      → Reads types member (Err 2)
  no_number : is_number (name_at types member.name) ≡ true → ((value : ℕ) → Counts types member.target value → ⊥)
      → Reads types member (Err 3)
  no_pointer : is_size (name_at types member.name) ≡ true → ((target : ℕ) → Points types member.target target → ⊥)
      → Reads types member (Err 3)
  no_size : {target : ℕ} → is_size (name_at types member.name) ≡ true → Points types member.target target
      → ((size : ℕ) → HasSize types target size → ⊥) → Reads types member (Err 4)

-- what all members give, or the least rule that one of them breaks
pub data ReadsAll (types : TypeTable) (members : List Part) : Result (List Named) ℕ → Type 0 where
  all_kept : {values : List Named} → Paired (λ member value. Reads types member (Ok value)) members values
      → ReadsAll types members (Ok values)
  least_broken : {rule : ℕ} (place : ℕ) {member : Part} → slice_get members place ≡ Some member → Reads types member (Err rule)
      → ((k other : ℕ) (one : Part) → slice_get members k ≡ Some one → Reads types one (Err other) → rule ≤ other)
      → ReadsAll types members (Err rule)
