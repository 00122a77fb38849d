-- What an update and a delete answer, case by case.
use Rattle.std.proofs.Common.{◌≡◌, ℕ, ◌<◌, ◌≤◌, Bool, true, false, nat_eq, ◌&&◌, List, Option, Some, None, get_or, refl}
use Rattle.std.proofs.lemmas.Bool.{lt-ltb, le-ltb, ne_eqb}
use Rattle.std.proofs.lemmas.List.Quantifiers.{position-Some}
use Rattle.map_store.specs.declared.store.UpdateEnd.TheVariants as update
use Rattle.map_store.specs.declared.store.DeleteEnd.TheVariants as delete
use Rattle.map_store.specs.Slots.{Map, Entry, has_key, is_shared, is_array, place_of, least_empty, with_entry, emptied}
use Rattle.map_store.specs.Answers.{update_end, updated, delete_end, deleted}

and-false : (b : Bool) → (b && false) ≡ false
and-false true = refl
and-false false = refl

pub update-shared : (map : Map) (key : List ℕ) (flags : ℕ) → is_shared map.kind ≡ true → update_end map key flags ≡ update.ReadOnly
unfolding update_end
update-shared map key flags shared = rw shared refl

pub update-bad_flag : (map : Map) (key : List ℕ) (flags : ℕ) → is_shared map.kind ≡ false → 2 < flags → update_end map key flags ≡ update.BadFlag
unfolding update_end
update-bad_flag map key flags own above = rw (own, lt-ltb 2 flags above) refl

pub update-past : (map : Map) (key : List ℕ) (flags : ℕ) → is_shared map.kind ≡ false → flags ≤ 2 → is_array map.kind ≡ true → place_of key map.slots ≡ None → update_end map key flags ≡ update.NoRoom
unfolding update_end
update-past map key flags own known array absent = rw (own, le-ltb 2 flags known, array, absent) refl

pub update-exists : (map : Map) (key : List ℕ) (flags : ℕ) (place : ℕ) → is_shared map.kind ≡ false → flags ≡ 1 → place_of key map.slots ≡ Some place → update_end map key flags ≡ update.Exists
unfolding update_end
update-exists map key flags place own one there = rw (own, one, there, and-false (is_array map.kind)) refl

pub update-missing : (map : Map) (key : List ℕ) (flags : ℕ) → is_shared map.kind ≡ false → flags ≡ 2 → is_array map.kind ≡ false → place_of key map.slots ≡ None → update_end map key flags ≡ update.Missing
unfolding update_end
update-missing map key flags own two hash absent = rw (own, two, hash, absent) refl

pub update-full : (map : Map) (key : List ℕ) (flags : ℕ) → is_shared map.kind ≡ false → flags ≤ 2 → (flags ≡ 2 → ⊥) → is_array map.kind ≡ false → place_of key map.slots ≡ None → least_empty map.slots ≡ None → update_end map key flags ≡ update.NoRoom
unfolding update_end
update-full map key flags own known other hash absent full = rw (own, le-ltb 2 flags known, hash, absent, full, ne_eqb flags 2 other, and-false (nat_eq flags 1)) refl

pub update-new : (map : Map) (key : List ℕ) (flags : ℕ) (place : ℕ) → is_shared map.kind ≡ false → flags ≤ 2 → (flags ≡ 2 → ⊥) → is_array map.kind ≡ false → place_of key map.slots ≡ None → least_empty map.slots ≡ Some place → update_end map key flags ≡ update.Done
unfolding update_end
update-new map key flags place own known other hash absent room = rw (own, le-ltb 2 flags known, hash, absent, room, ne_eqb flags 2 other, and-false (nat_eq flags 1)) refl

pub update-there : (map : Map) (key : List ℕ) (flags : ℕ) (place : ℕ) → is_shared map.kind ≡ false → flags ≤ 2 → (flags ≡ 1 → ⊥) → place_of key map.slots ≡ Some place → update_end map key flags ≡ update.Done
unfolding update_end
update-there map key flags place own known other there = rw (own, le-ltb 2 flags known, there, ne_eqb flags 1 other, and-false (is_array map.kind), and-false (nat_eq flags 2)) refl

pub delete-shared : (map : Map) (key : List ℕ) → is_shared map.kind ≡ true → delete_end map key ≡ delete.ReadOnly
unfolding delete_end
delete-shared map key shared = rw shared refl

pub delete-fixed : (map : Map) (key : List ℕ) → is_shared map.kind ≡ false → is_array map.kind ≡ true → delete_end map key ≡ delete.Fixed
unfolding delete_end
delete-fixed map key own array = rw (own, array) refl

pub delete-missing : (map : Map) (key : List ℕ) → is_shared map.kind ≡ false → is_array map.kind ≡ false → place_of key map.slots ≡ None → delete_end map key ≡ delete.Missing
unfolding delete_end
delete-missing map key own hash absent = rw (own, hash, absent) refl

pub delete-there : (map : Map) (key : List ℕ) (place : ℕ) → is_shared map.kind ≡ false → is_array map.kind ≡ false → place_of key map.slots ≡ Some place → delete_end map key ≡ delete.Done
unfolding delete_end
delete-there map key place own hash there = rw (own, hash, there) refl

pub updated-new : (map : Map) (key : List ℕ) (place : ℕ) (value : List ℕ) → place_of key map.slots ≡ None → least_empty map.slots ≡ Some place → updated map key value ≡ record map { slots = with_entry map.slots place (record { key = key; value = value }) }
unfolding updated
updated-new map key place value absent room = rw (absent, room) refl

pub updated-there : (map : Map) (key : List ℕ) (place : ℕ) (value : List ℕ) → place_of key map.slots ≡ Some place → updated map key value ≡ record map { slots = with_entry map.slots place (record { key = key; value = value }) }
unfolding updated
updated-there map key place value there = rw there refl

pub deleted-there : (map : Map) (key : List ℕ) (place : ℕ) → place_of key map.slots ≡ Some place → deleted map key ≡ record map { slots = emptied map.slots place }
unfolding deleted
deleted-there map key place there = rw there refl

-- the slot at the place of a key has it
pub found_key : (key : List ℕ) (slots : List (Option Entry)) (place : ℕ) → place_of key slots ≡ Some place → has_key key (get_or slots place None) ≡ true
unfolding place_of
found_key key slots place there = (position-Some (has_key key) slots place None there).1

pub ruleset update_ends = (update-shared, update-bad_flag, update-past, update-exists, update-missing, update-full, update-new, update-there)

pub ruleset delete_ends = (delete-shared, delete-fixed, delete-missing, delete-there)
