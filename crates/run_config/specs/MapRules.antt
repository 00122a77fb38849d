-- The rules M5 to M10 that the maps of an object keep, whatever defines them.
use Rattle.std.specs.Prelude.{ℕ, ◌*◌, nat_lt, nat_le, List, [], ◌∷◌, ◌++◌, length, sum_by, Option, Some, None, if◌then◌else◌}
use Rattle.std.specs.Option.{option_or}
use Rattle.map_store.specs.declared.spec.MapSpec.{MapSpec}
use Rattle.map_store.specs.Spec.{spec_rule, slot_size}

-- the bytes of a map's slots, and of those of maps
unfoldable pub room_of : MapSpec → ℕ
room_of spec = spec.max_entries * slot_size spec

unfoldable pub total_room : List MapSpec → ℕ
total_room specs = sum_by room_of specs

-- 4 MiB for all maps of an object
abbrev pub most_room : ℕ
most_room = 4194304

abbrev pub most_maps : ℕ
most_maps = 32

-- the first rule that a map breaks behind others: one of its own, 9 where the slots of all take too much room, 10 where
-- it is one too many
unfoldable pub rule_behind : List MapSpec → MapSpec → Option ℕ
rule_behind before spec =
    option_or (spec_rule spec) (
    if nat_lt most_room (total_room (before ++ spec ∷ [])) then Some 9
    else if nat_le most_maps (length before) then Some 10
    else None
    )

-- a map, by its place among all, and a rule
pub record MapBreak : Type 0 where
  pub index : ℕ
  pub rule : ℕ

abbrev pub broken_at : ℕ → Option ℕ → Option MapBreak → Option MapBreak
broken_at index None later = later
broken_at index (Some rule) later = Some (record { index = index; rule = rule })

-- of maps behind others, the first that breaks a rule, and the first rule that it breaks
abbrev pub first_break : List MapSpec → List MapSpec → Option MapBreak
first_break before [] = None
first_break before (spec ∷ specs) = broken_at (length before) (rule_behind before spec) (first_break (before ++ spec ∷ []) specs)
