-- The maps by addresses.
use Rattle.std.proofs.Common.{◌≡◌, ℕ, ◌+◌, ◌*◌, ◌<◌, ◌≤◌, inl, inr, Bool, true, false, nat_le, ◌&&◌, List, [], set, length, get_or, Some, None, refl, sym, ap, ◌∙◌, arith}
use Rattle.std.proofs.lemmas.Bool.{cases_Bool, le-leb, lt-leb}
use Rattle.std.proofs.lemmas.List.{get_or_read, get_or_past}
use Rattle.flat_memory.specs.Memory.{number_at, bytes_at}
use Rattle.flat_memory.specs.Numbers.{size_of}
use Rattle.flat_memory.proofs.Laws.{number_at-same, bytes_at-same}
use Rattle.bpf_insn.specs.declared.operation.Size.{Size}
use Rattle.map_store.specs.Spec.{rounded}
use Rattle.map_store.specs.Slots.{Map, map_at, place_of}
use Rattle.map_store.specs.Values.{values_start, map_room, number_of, offset_of, lookup_of, values, values_in, can_read, can_read_in, can_write, can_write_in, load_of, load_in, bytes_of, bytes_in, map_written, maps_written}

and-false : (b : Bool) → (b && false) ≡ false
and-false true = refl
and-false false = refl

-- the map that an index gives
pub map_read : (maps : List Map) (number : ℕ) (map : Map) → number < length maps → map ≡ get_or maps number map → map_at maps number ≡ map
map_read maps number map within read = sym (get_or_read maps number map within read _)

no_map : (maps : List Map) (number : ℕ) → length maps ≤ number → (map_at maps number).slots ≡ []
no_map maps number past = ap (λ (map : Map). map.slots) (get_or_past maps number _ past)

nothing_read : (map : Map) (offset n : ℕ) → map.slots ≡ [] → can_read_in map offset n ≡ false
unfolding can_read_in
nothing_read map offset n none = rw none refl

pub read-below : (maps : List Map) (address n : ℕ) → address < values_start → can_read maps address n ≡ false
unfolding can_read
read-below maps address n below = rw (lt-leb values_start address below) refl

pub read-nowhere : (maps : List Map) (address n : ℕ) → length maps ≤ number_of address → can_read maps address n ≡ false
unfolding can_read
read-nowhere maps address n past = rw (nothing_read (map_at maps (number_of address)) (offset_of address) n (no_map maps (number_of address) past), and-false (nat_le values_start address)) refl

pub read-at : (maps : List Map) (address n : ℕ) → values_start ≤ address → can_read maps address n ≡ can_read_in (map_at maps (number_of address)) (offset_of address) n
unfolding can_read
read-at maps address n above = rw (le-leb values_start address above) refl

pub write-below : (maps : List Map) (address n : ℕ) → address < values_start → can_write maps address n ≡ false
unfolding can_write
write-below maps address n below = rw (lt-leb values_start address below) refl

pub write-nowhere : (maps : List Map) (address n : ℕ) → length maps ≤ number_of address → can_write maps address n ≡ false
unfolding can_write can_write_in
write-nowhere maps address n past = rw (nothing_read (map_at maps (number_of address)) (offset_of address) n (no_map maps (number_of address) past), and-false (nat_le values_start address)) refl

pub write-at : (maps : List Map) (address n : ℕ) → values_start ≤ address → can_write maps address n ≡ can_write_in (map_at maps (number_of address)) (offset_of address) n
unfolding can_write
write-at maps address n above = rw (le-leb values_start address above) refl

-- the bytes behind an address in a map's room
byte_at : (maps : List Map) (address i : ℕ) → values_start ≤ address → offset_of address + i < map_room → values maps (address + i) ≡ values_in (map_at maps (number_of address)) (offset_of address + i)
unfolding values
byte_at maps address i above small =
    let test : nat_le values_start (address + i) ≡ true = le-leb values_start (address + i) (omega arith) in
    let same : number_of (address + i) ≡ number_of address = omega arith in
    let moved : offset_of (address + i) ≡ offset_of address + i = omega arith in
    rw (test, same, moved) refl

pub load-none : (maps : List Map) (address : ℕ) (size : Size) → can_read maps address (size_of size) ≡ false → load_of maps address size ≡ None
unfolding load_of
load-none maps address size none = rw none refl

pub load-at : (maps : List Map) (map : Map) (address : ℕ) (size : Size) → values_start ≤ address → map_at maps (number_of address) ≡ map
    → (can_read_in map (offset_of address) (size_of size) ≡ true → offset_of address + size_of size ≤ 4194304)
    → load_of maps address size ≡ load_in map (offset_of address) size
unfolding load_of load_in
load-at maps map address size above is small = elim (cases_Bool (can_read_in map (offset_of address) (size_of size))) [
  | inr none ↦ rw (read-at maps address (size_of size) above, is, none) refl
  | inl can ↦
      let room : offset_of address + size_of size ≤ 4194304 = small can in
      let number : number_at (values maps) address (size_of size) ≡ number_at (values_in map) (offset_of address) (size_of size) =
      number_at-same (size_of size) address (offset_of address) (values maps) (values_in map) (λ i below. byte_at maps address i above (omega arith) ∙ ap (λ (m : Map). values_in m (offset_of address + i)) is) in
      rw (read-at maps address (size_of size) above, is, can, number) refl
]

pub bytes-none : (maps : List Map) (address n : ℕ) → can_read maps address n ≡ false → bytes_of maps address n ≡ None
unfolding bytes_of
bytes-none maps address n none = rw none refl

pub bytes-at : (maps : List Map) (map : Map) (address n : ℕ) → values_start ≤ address → map_at maps (number_of address) ≡ map
    → (can_read_in map (offset_of address) n ≡ true → offset_of address + n ≤ 4194304)
    → bytes_of maps address n ≡ bytes_in map (offset_of address) n
unfolding bytes_of bytes_in
bytes-at maps map address n above is small = elim (cases_Bool (can_read_in map (offset_of address) n)) [
  | inr none ↦ rw (read-at maps address n above, is, none) refl
  | inl can ↦
      let room : offset_of address + n ≤ 4194304 = small can in
      let bytes : bytes_at (values maps) address n ≡ bytes_at (values_in map) (offset_of address) n =
      bytes_at-same n address (offset_of address) (values maps) (values_in map) (λ i below. byte_at maps address i above (omega arith) ∙ ap (λ (m : Map). values_in m (offset_of address + i)) is) in
      rw (read-at maps address n above, is, can, bytes) refl
]

pub lookup-some : (maps : List Map) (number : ℕ) (map : Map) (key : List ℕ) (place : ℕ) → map_at maps number ≡ map → place_of key map.slots ≡ Some place → lookup_of maps number key ≡ Some (values_start + number * map_room + place * rounded map.value_size)
unfolding lookup_of
lookup-some maps number map key place is there = rw (is, there) refl

pub lookup-none : (maps : List Map) (number : ℕ) (map : Map) (key : List ℕ) → map_at maps number ≡ map → place_of key map.slots ≡ None → lookup_of maps number key ≡ None
unfolding lookup_of
lookup-none maps number map key is absent = rw (is, absent) refl

pub written-at : (maps : List Map) (map new : Map) (address : ℕ) (bytes : List ℕ) → map_at maps (number_of address) ≡ map → new ≡ map_written map (offset_of address) bytes → set maps (number_of address) new ≡ maps_written maps address bytes
unfolding maps_written
written-at maps map new address bytes is wrote = rw (is, wrote) refl
