-- The places that the code finds in its buffers are those of the map.
use Rattle.std.proofs.Common.{◌≡◌, ℕ, ◌<◌, inl, inr, Bool, true, false, not, nat_eq, List, length, get_or, position, Option, Some, None, is_some, IfSome, refl, sym, ◌∙◌}
use Rattle.std.proofs.lemmas.Bool.{cases_Bool, not-true}
use Rattle.std.specs.Cmp.Lexicographic.{pointwise}
use Rattle.byteorder.specs.Endian.{little_bytes}
use Rattle.map_store.specs.Slots.{Map, Entry, has_key, is_empty, is_array}
use Rattle.map_store.specs.Occupied.{is_taken}
use Rattle.map_store.specs.SlotsView.{part, slot_in, slots_in, has_key_at, IsFirst, map_of, AreBuckets, HasBuffers}
use Rattle.map_store.specs.declared.slots.Slots.TheInside.{Inside}
use Rattle.map_store.proofs.SlotLists.{length-slots_in, get-slots_in, position-slots_in}
use Rattle.map_store.proofs.Writes.{slot_in-empty}

pub record IsPlaceIn (p : Option Entry → Bool) (slots : List (Option Entry)) (result : Option ℕ) : Type 0 where
  pub place : result ≡ position p slots
  pub within : IfSome result (λ place. place < length slots)

-- what holds of the first place of buffers holds of the slots
first_place : (p : Option Entry → Bool) (passes : ℕ → Bool) (k v : ℕ) (keys values : List ℕ) (taken : List Bool) (result : Option ℕ)
    → ((i : ℕ) → i < length taken → passes i ≡ p (slot_in k v keys values taken i)) → IsFirst passes (length taken) result → IsPlaceIn p (slots_in k v keys values taken) result
first_place p passes k v keys values taken None same found = record { place = sym (position-slots_in p passes k v keys values taken None same found); within = tt }
first_place p passes k v keys values taken (Some place) same found =
    record { place = sym (position-slots_in p passes k v keys values taken (Some place) same found); within = rw (length-slots_in k v keys values taken) found.within }

same_key : (k v : ℕ) (keys values : List ℕ) (taken : List Bool) (buckets : List (Option ℕ)) (key : List ℕ) (i : ℕ) → length key ≡ k → is_some (get_or buckets i None) ≡ is_taken taken i → has_key_at keys buckets key i ≡ has_key key (slot_in k v keys values taken i)
unfolding has_key_at slot_in
same_key k v keys values taken buckets key i size filled = elim (cases_Bool (is_taken taken i)) [
  | inl seen ↦ rw (filled, seen, size) refl
  | inr unseen ↦ rw (filled, unseen) refl
]

same_empty : (k v : ℕ) (keys values : List ℕ) (taken : List Bool) (i : ℕ) → not (is_taken taken i) ≡ is_empty (slot_in k v keys values taken i)
unfolding slot_in
same_empty k v keys values taken i = elim (cases_Bool (is_taken taken i)) [
  | inl seen ↦ rw seen refl
  | inr unseen ↦ rw unseen refl
]

same_index : (v : ℕ) (keys values : List ℕ) (taken : List Bool) (key : List ℕ) (i : ℕ) → is_taken taken i ≡ true → part 4 4 keys i ≡ little_bytes 4 i → pointwise nat_eq (little_bytes 4 i) key ≡ has_key key (slot_in 4 v keys values taken i)
unfolding slot_in
same_index v keys values taken key i seen is = rw (seen, is) refl

pub key_place : (s : Inside) (map : Map) (key : List ℕ) (result : Option ℕ) → map_of s ≡ map → length key ≡ map.key_size → AreBuckets s.key_size s.keys.items s.taken s.chains → IsFirst (has_key_at s.keys.items s.chains key) (length s.chains) result → IsPlaceIn (has_key key) map.slots result
key_place s map key result is size ok found =
    let size' : length key ≡ s.key_size = rw (← is) at size in
    let found' : IsFirst (has_key_at s.keys.items s.chains key) (length s.taken) result = rw ok.count at found in
    rw (← is) (first_place (has_key key) (has_key_at s.keys.items s.chains key) s.key_size s.value_size s.keys.items s.values.items s.taken result (λ i below. same_key s.key_size s.value_size s.keys.items s.values.items s.taken s.chains key i size' (ok.filled i below)) found')

pub index_place : (s : Inside) (map : Map) (key : List ℕ) (result : Option ℕ) → map_of s ≡ map → HasBuffers s → is_array s.kind ≡ true → IsFirst (λ i. pointwise nat_eq (little_bytes 4 i) key) (length s.taken) result → IsPlaceIn (has_key key) map.slots result
index_place s map key result is ok array found =
    let four : s.key_size ≡ 4 = ok.array array in
    rw (← is, four) (first_place (has_key key) (λ i. pointwise nat_eq (little_bytes 4 i) key) 4 s.value_size s.keys.items s.values.items s.taken result (λ i below. same_index s.value_size s.keys.items s.values.items s.taken key i (ok.indices array i below).0 (ok.indices array i below).1) found)

pub empty_place : (s : Inside) (map : Map) (result : Option ℕ) → map_of s ≡ map → IsFirst (λ i. not (is_taken s.taken i)) (length s.taken) result → IsPlaceIn is_empty map.slots result
empty_place s map result is found = rw (← is) (first_place is_empty (λ i. not (is_taken s.taken i)) s.key_size s.value_size s.keys.items s.values.items s.taken result (λ i below. same_empty s.key_size s.value_size s.keys.items s.values.items s.taken i) found)

-- the least empty slot is empty
pub empty_slot : (s : Inside) (map : Map) (result : Option ℕ) → map_of s ≡ map → IsFirst (λ i. not (is_taken s.taken i)) (length s.taken) result → IfSome result (λ place. get_or map.slots place None ≡ None)
empty_slot s map None is found = tt
empty_slot s map (Some place) is found =
    let unseen : is_taken s.taken place ≡ false = not-true (is_taken s.taken place) found.found in
    rw (← is) (get-slots_in s.key_size s.value_size s.keys.items s.values.items s.taken place found.within ∙ slot_in-empty s.key_size s.value_size s.keys.items s.values.items s.taken place unseen)
