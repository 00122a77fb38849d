-- What an update and a delete answer, and what they make of a map.
use Rattle.std.specs.Prelude.{ℕ, Bool, ◌==◌, ◌&&◌, nat_lt, List, [], ◌∷◌, Option, Some, None, is_none, is_some, if◌then◌else◌}
use Rattle.std.specs.Option.{option_or}
use Rattle.map_store.specs.declared.store.UpdateEnd.{UpdateEnd}
use Rattle.map_store.specs.declared.store.UpdateEnd.TheVariants as update
use Rattle.map_store.specs.declared.store.DeleteEnd.{DeleteEnd}
use Rattle.map_store.specs.declared.store.DeleteEnd.TheVariants as delete
use Rattle.map_store.specs.Slots.{Map, Entry, is_shared, is_array, place_of, least_empty, with_entry, emptied}

-- the answer of the first test that holds, or this one where none does
abbrev pub first_answer : {A : Type 0} → List (Bool × A) → A → A
first_answer [] other = other
first_answer (test ∷ tests) other = if test.0 then test.1 else first_answer tests other

-- An array has the keys of its places alone, so a key that isn't there is past its end.
unfoldable pub update_end : Map → List ℕ → ℕ → UpdateEnd
update_end map key flags =
    first_answer (
    (is_shared map.kind, update.ReadOnly)
    ∷ (nat_lt 2 flags, update.BadFlag)
    ∷ (is_array map.kind && is_none (place_of key map.slots), update.NoRoom)
    ∷ (flags == 1 && is_some (place_of key map.slots), update.Exists)
    ∷ (flags == 2 && is_none (place_of key map.slots), update.Missing)
    ∷ (is_none (place_of key map.slots) && is_none (least_empty map.slots), update.NoRoom)
    ∷ []
    ) update.Done

-- the slots with the entry at the place of its key, or else at the least empty place
abbrev pub put : List (Option Entry) → Entry → Option ℕ → List (Option Entry)
put slots entry None = slots
put slots entry (Some place) = with_entry slots place entry

unfoldable pub updated : Map → List ℕ → List ℕ → Map
updated map key value =
    record map { slots = put map.slots (record { key = key; value = value }) (option_or (place_of key map.slots) (least_empty map.slots)) }

unfoldable pub delete_end : Map → List ℕ → DeleteEnd
delete_end map key =
    first_answer (
    (is_shared map.kind, delete.ReadOnly)
    ∷ (is_array map.kind, delete.Fixed)
    ∷ (is_none (place_of key map.slots), delete.Missing)
    ∷ []
    ) delete.Done

-- the slots with the place of the key emptied
abbrev pub cut : List (Option Entry) → Option ℕ → List (Option Entry)
cut slots None = slots
cut slots (Some place) = emptied slots place

unfoldable pub deleted : Map → List ℕ → Map
deleted map key = record map { slots = cut map.slots (place_of key map.slots) }
