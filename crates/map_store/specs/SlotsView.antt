-- How flat buffers stand for the slots of a map.
use Rattle.std.specs.Prelude.{◌≡◌, ◌≤◌, ◌<◌, ℕ, ◌*◌, Bool, true, false, ◌&&◌, nat_eq, List, length, take, drop, map, slice_index_or, Option, Some, None, is_some, MatchOption, if◌then◌else◌}
use Rattle.std.specs.Cmp.Lexicographic.{pointwise}
use Rattle.std.specs.List.{range_with_len}
use Rattle.byteorder.specs.Endian.{little_bytes}
use Rattle.map_store.specs.Spec.{rounded}
use Rattle.map_store.specs.Occupied.{is_taken}
use Rattle.map_store.specs.Buckets.{bucket_of}
use Rattle.map_store.specs.Slots.{Map, Entry, is_array}
use Rattle.map_store.specs.declared.slots.Slots.TheInside.{Inside}

-- the part of this size at a place, where parts begin at multiples of a step
unfoldable pub part : ℕ → ℕ → List ℕ → ℕ → List ℕ
part size step bytes place = take size (drop (place * step) bytes)

-- the slot at a place
unfoldable pub slot_in : ℕ → ℕ → List ℕ → List ℕ → List Bool → ℕ → Option Entry
slot_in key_size value_size keys values taken place =
    if is_taken taken place
    then Some (record { key = part key_size key_size keys place; value = part value_size (rounded value_size) values place })
    else None

unfoldable pub slots_in : ℕ → ℕ → List ℕ → List ℕ → List Bool → List (Option Entry)
slots_in key_size value_size keys values taken = map (slot_in key_size value_size keys values taken) (range_with_len 0 (length taken))

-- the slot at a place is in a bucket and has the key
unfoldable pub has_key_at : List ℕ → List (Option ℕ) → List ℕ → ℕ → Bool
has_key_at keys buckets key place = is_some (slice_index_or buckets place None) && pointwise nat_eq (part (length key) (length key) keys place) key

-- a slot's bucket is that of its key
abbrev pub AreOfKeys : ℕ → List ℕ → List (Option ℕ) → Type 0
AreOfKeys key_size keys buckets = (place bucket : ℕ) → slice_index_or buckets place None ≡ Some bucket → bucket ≡ bucket_of (length buckets) (part key_size key_size keys place)

-- each taken slot is in the bucket of its key, and no other is in one
pub record AreBuckets (key_size : ℕ) (keys : List ℕ) (taken : List Bool) (buckets : List (Option ℕ)) : Type 0 where
  pub count : length buckets ≡ length taken
  pub filled : (place : ℕ) → place < length taken → is_some (slice_index_or buckets place None) ≡ is_taken taken place
  pub own : AreOfKeys key_size keys buckets

-- the first number below n that passes a test, if one does
pub record IsFirstPlace (passes : ℕ → Bool) (n place : ℕ) : Type 0 where
  pub within : place < n
  pub found : passes place ≡ true
  pub first : (k : ℕ) → k < place → passes k ≡ false

abbrev pub IsFirst : (ℕ → Bool) → ℕ → Option ℕ → Type 0
IsFirst passes n result = MatchOption result ((k : ℕ) → k < n → passes k ≡ false) (IsFirstPlace passes n)

abbrev pub map_of : Inside → Map
map_of s = record {
  kind = s.kind;
  key_size = s.key_size;
  value_size = s.value_size;
  slots = slots_in s.key_size s.value_size s.keys.items s.values.items s.taken;
}

pub record HasBuffers (s : Inside) : Type 0 where
  pub stride : s.stride ≡ rounded s.value_size
  pub keys : length s.keys.items ≡ length s.taken * s.key_size
  pub values : length s.values.items ≡ length s.taken * s.stride
  pub step : s.value_size ≤ s.stride
  pub some : 0 < s.stride
  pub room : length s.values.items ≤ 4194304
  pub keys_room : length s.keys.items ≤ 4194304
  pub key_small : s.key_size ≤ 512
  pub value_small : s.value_size ≤ 65536
  pub slots : 0 < length s.taken
  pub few : length s.taken ≤ 1048576
  pub array : is_array s.kind ≡ true → s.key_size ≡ 4
  pub indices : is_array s.kind ≡ true → (place : ℕ) → place < length s.taken → (is_taken s.taken place ≡ true) × (part 4 4 s.keys.items place ≡ little_bytes 4 place)
  pub buckets : is_array s.kind ≡ false → AreBuckets s.key_size s.keys.items s.taken s.chains

abbrev pub FewMaps : List Map → Type 0
FewMaps maps = length maps ≤ 32
