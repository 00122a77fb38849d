-- What maps are made of, and what they hold at first.
use Rattle.std.specs.Prelude.{◌≡◌, ◌≤◌, ◌⊎◌, ℕ, ◌*◌, List, [], ◌∷◌, length, map, replicate, Option, Some, None, if◌then◌else◌}
use Rattle.std.specs.List.{All, range_with_len, sum_by}
use Rattle.byteorder.specs.Endian.{little_bytes}
use Rattle.map_store.specs.declared.spec.MapSpec.{MapSpec}
use Rattle.map_store.specs.declared.spec.MapKind.TheVariants.{Array}
use Rattle.map_store.specs.Spec.{spec_rule, slot_size}
use Rattle.map_store.specs.Slots.{Map, Entry, is_array}

-- the initial content is empty, or the value of the one entry of a shared array
abbrev pub HasInitial : MapSpec → Type 0
HasInitial spec = (spec.initial ≡ []) ⊎ ((spec.kind ≡ Array) × (spec.max_entries ≡ 1) × (length spec.initial ≡ spec.value_size))

-- a spec keeps the rules, and has such content
pub record IsMakeable (spec : MapSpec) : Type 0 where
  pub rules : spec_rule spec ≡ None
  pub initial : HasInitial spec

-- at most 32 specs, whose slots take at most 4 MiB
pub record AreMakeable (specs : List MapSpec) : Type 0 where
  pub each : All IsMakeable specs
  pub count : length specs ≤ 32
  pub room : sum_by (λ spec. spec.max_entries * slot_size spec) specs ≤ 4194304

-- zeros where no initial content is given
abbrev pub first_value : MapSpec → List ℕ
first_value spec = cases spec.initial where
  cases : List ℕ → List ℕ
  cases [] = replicate spec.value_size 0
  cases (byte ∷ bytes) = byte ∷ bytes

-- slot i of an array has the number i as its key, 4 bytes, the lowest first
abbrev pub first_entry : MapSpec → ℕ → Entry
first_entry spec place = record { key = little_bytes 4 place; value = first_value spec }

-- an array has all its slots from the start, a hash has none
abbrev pub first_slots : MapSpec → List (Option Entry)
first_slots spec =
    if is_array spec.kind
    then map (λ place. Some (first_entry spec place)) (range_with_len 0 spec.max_entries)
    else replicate spec.max_entries None

unfoldable pub first_map : MapSpec → Map
first_map spec = record { kind = spec.kind; key_size = spec.key_size; value_size = spec.value_size; slots = first_slots spec }
