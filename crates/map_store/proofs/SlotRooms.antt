-- What the invariant of the buffers gives at one place.
use Rattle.std.proofs.Common.{◌≡◌, ℕ, ◌+◌, ◌*◌, ◌<◌, ◌≤◌, length, arith}
use Rattle.std.proofs.lemmas.Nat.{row_fits}
use Rattle.map_store.specs.Slots.{Map}
use Rattle.map_store.specs.SlotsView.{map_of, HasBuffers}
use Rattle.map_store.specs.declared.slots.Slots.TheInside.{Inside}
use Rattle.map_store.proofs.SlotLists.{length-slots_in}

pub record IsPlace (s : Inside) (place : ℕ) : Type 0 where
  pub within : place < length s.taken
  pub key : place * s.key_size + s.key_size ≤ length s.keys.items
  pub value : place * s.stride + s.stride ≤ length s.values.items
  pub key_small : place * s.key_size ≤ 4194304
  pub value_small : place * s.stride < 4194304

pub place_of_slots : (s : Inside) (map : Map) (place : ℕ) → map_of s ≡ map → HasBuffers s → place < length map.slots → IsPlace s place
place_of_slots s map place is ok below =
    let long : length (map_of s).slots ≡ length s.taken = length-slots_in s.key_size s.value_size s.keys.items s.values.items s.taken in
    let under : place < length (map_of s).slots = rw (← is) at below in
    let within : place < length s.taken = omega arith in
    let key : place * s.key_size + s.key_size ≤ length s.taken * s.key_size = row_fits place s.key_size (length s.taken) s.key_size within (omega arith) in
    let value : place * s.stride + s.stride ≤ length s.taken * s.stride = row_fits place s.stride (length s.taken) s.stride within (omega arith) in
    let lk : length s.keys.items ≡ length s.taken * s.key_size = ok.keys in
    let lv : length s.values.items ≡ length s.taken * s.stride = ok.values in
    let some : 0 < s.stride = ok.some in
    let room : length s.values.items ≤ 4194304 = ok.room in
    let room' : length s.keys.items ≤ 4194304 = ok.keys_room in
    record { within = within; key = omega arith; value = omega arith; key_small = omega arith; value_small = omega arith }
