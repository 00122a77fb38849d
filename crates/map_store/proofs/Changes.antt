-- A map after a write to its buffers.
use Rattle.std.proofs.Common.{◌≡◌, ℕ, ◌+◌, ◌*◌, ◌<◌, ◌≤◌, true, false, List, set, length, get_or, Some, None, Vec, ap, ◌∙◌}
use Rattle.std.specs.Vec.{with_items}
use Rattle.flat_memory.specs.Numbers.{with_bytes}
use Rattle.flat_memory.proofs.Bytes.{length-with_bytes}
use Rattle.map_store.specs.Spec.{rounded}
use Rattle.map_store.specs.Slots.{has_key}
use Rattle.map_store.specs.Values.{slot_written}
use Rattle.map_store.specs.SlotsView.{part, slots_in, map_of, HasBuffers}
use Rattle.map_store.specs.declared.slots.Slots.TheInside.{Inside}
use Rattle.map_store.proofs.SlotRooms.{IsPlace}
use Rattle.map_store.proofs.Writes as writes

-- the bytes of a Vec after a write to its slice
pub bytes_after : {Z : Type 0} (v : Vec ℕ Z) (slice new others : List ℕ) (start : ℕ) → slice ≡ v.items → new ≡ with_bytes slice start others → start + length others ≤ length v.items → (with_items v new).items ≡ with_bytes v.items start others
bytes_after v slice new others start is wrote fits = writes.written_items v new (with_bytes v.items start others) (wrote ∙ ap (λ (xs : List ℕ). with_bytes xs start others) is) (length-with_bytes v.items start others fits)

module _ (s : Inside) (ok : HasBuffers s) (place : ℕ) (p : IsPlace s place) where
  wide : length s.values.items ≡ length s.taken * rounded s.value_size
  wide = ok.values ∙ ap (λ (n : ℕ). length s.taken * n) ok.stride

  step : s.value_size ≤ rounded s.value_size
  step = rw (← ok.stride) ok.step

  at_place : (values' others : List ℕ) → values' ≡ with_bytes s.values.items (place * s.stride) others → values' ≡ with_bytes s.values.items (place * rounded s.value_size) others
  at_place values' others is = rw (← ok.stride) is

  pub here_key : (key keys' : List ℕ) → keys' ≡ with_bytes s.keys.items (place * s.key_size) key → length key ≡ s.key_size → part s.key_size s.key_size keys' place ≡ key
  here_key key keys' is size = rw is (writes.here_key s.key_size s.value_size s.keys.items s.values.items s.taken ok.keys wide step place p.within key size)

  pub other_key : (key keys' : List ℕ) → keys' ≡ with_bytes s.keys.items (place * s.key_size) key → length key ≡ s.key_size → (k : ℕ) → k < length s.taken → (k ≡ place → ⊥) → part s.key_size s.key_size keys' k ≡ part s.key_size s.key_size s.keys.items k
  other_key key keys' is size k below apart = rw is (writes.other_key s.key_size s.value_size s.keys.items s.values.items s.taken ok.keys wide step place p.within key k size below apart)

  pub value_set : (key value values' : List ℕ) → values' ≡ with_bytes s.values.items (place * s.stride) value → length value ≡ s.value_size → has_key key (get_or (map_of s).slots place None) ≡ true
      → slots_in s.key_size s.value_size s.keys.items values' s.taken ≡ set (map_of s).slots place (Some (record { key = key; value = value }))
  value_set key value values' is size has =
      writes.value_set s.key_size s.value_size s.keys.items s.values.items s.taken ok.keys wide step place p.within key value values' (at_place values' value is) size has

  pub filled : (key value keys' values' : List ℕ) → keys' ≡ with_bytes s.keys.items (place * s.key_size) key → values' ≡ with_bytes s.values.items (place * s.stride) value → length key ≡ s.key_size → length value ≡ s.value_size
      → slots_in s.key_size s.value_size keys' values' (set s.taken place true) ≡ set (map_of s).slots place (Some (record { key = key; value = value }))
  filled key value keys' values' is is' size size' =
      writes.filled s.key_size s.value_size s.keys.items s.values.items s.taken ok.keys wide step place p.within key value keys' values' is (at_place values' value is') size size'

  pub emptied_at : slots_in s.key_size s.value_size s.keys.items s.values.items (set s.taken place false) ≡ set (map_of s).slots place None
  emptied_at = writes.emptied_at s.key_size s.value_size s.keys.items s.values.items s.taken ok.keys wide step place p.within

  pub value_written : (others values' : List ℕ) (byte : ℕ) → values' ≡ with_bytes s.values.items (place * s.stride + byte) others → byte + length others ≤ s.value_size
      → slots_in s.key_size s.value_size s.keys.items values' s.taken ≡ set (map_of s).slots place (slot_written (get_or (map_of s).slots place None) byte others)
  value_written others values' byte is size =
      writes.value_written s.key_size s.value_size s.keys.items s.values.items s.taken ok.keys wide step place p.within others values' byte (rw (← ok.stride) is) size
