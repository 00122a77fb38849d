-- Reads and writes at an offset among a map's values.
use Rattle.std.proofs.Common.{◌≡◌, ℕ, ◌+◌, ◌-◌, ◌*◌, ◌/◌, ◌%◌, ◌<◌, ◌≤◌, inl, inr, Bool, true, false, nat_le, nat_lt, ◌&&◌, if◌then◌else◌, List, length, take, drop, slice_index, slice_get, Option, Some, None, unwrap_or, refl, sym, ap, ◌∙◌, arith}
use Rattle.std.proofs.lemmas.Bool.{leb-true, cases_lt, cases_Bool, false≢true, lt-ltb, le-ltb, lt-leb, le-leb}
use Rattle.bpf_insn.specs.declared.operation.Size.{Size}
use Rattle.std.proofs.lemmas.List.{get_or_past}
use Rattle.std.proofs.lemmas.Nat.{row_fits, div-mul-add, mod-mul-add, div-add-mod', mod_below}
use Rattle.std.proofs.lemmas.Option.{gets}
use Rattle.flat_memory.specs.Memory.{number_at, bytes_at}
use Rattle.flat_memory.specs.Numbers.{number_in, with_bytes, size_of}
use Rattle.flat_memory.proofs.Laws.{number_at-bytes, bytes_at-bytes}
use Rattle.map_store.specs.Spec.{rounded}
use Rattle.map_store.specs.Slots.{Map, is_shared}
use Rattle.map_store.specs.Values.{slot_at, byte_at, values_in, can_read_in, load_in, bytes_in, can_write_in, map_written}
use Rattle.map_store.specs.Occupied.{is_taken}
use Rattle.map_store.specs.SlotsView.{part, slot_in, slots_in, map_of, HasBuffers}
use Rattle.map_store.specs.declared.slots.Slots.TheInside.{Inside}
use Rattle.map_store.proofs.Parts.{length-part, index-part}
use Rattle.map_store.proofs.SlotLists.{length-slots_in, get-slots_in}
use Rattle.map_store.proofs.Writes.{slot_in-taken, slot_in-empty, with_slots}
use Rattle.map_store.proofs.SlotRooms.{IsPlace}
use Rattle.map_store.proofs.Changes.{value_written}

-- the offset of a byte of a place
pub record IsSpot (s : Inside) (offset place byte : ℕ) : Type 0 where
  pub within : place < length s.taken
  pub sum : offset ≡ place * s.stride + byte
  pub small : byte < s.stride
  pub room : IsPlace s place

pub spot : (s : Inside) (offset : ℕ) → HasBuffers s → offset / s.stride < length s.taken → IsSpot s offset (offset / s.stride) (offset % s.stride)
spot s offset ok within =
    let some : 0 < s.stride = ok.some in
    let q : ℕ = offset / s.stride in
    let key : q * s.key_size + s.key_size ≤ length s.taken * s.key_size = row_fits q s.key_size (length s.taken) s.key_size within (omega arith) in
    let value : q * s.stride + s.stride ≤ length s.taken * s.stride = row_fits q s.stride (length s.taken) s.stride within (omega arith) in
    let lk : length s.keys.items ≡ length s.taken * s.key_size = ok.keys in
    let lv : length s.values.items ≡ length s.taken * s.stride = ok.values in
    let room : length s.values.items ≤ 4194304 = ok.room in
    let room' : length s.keys.items ≤ 4194304 = ok.keys_room in
    record { within = within; sum = sym (div-add-mod' offset s.stride); small = mod_below offset s.stride some; room = record { within = within; key = omega arith; value = omega arith; key_small = omega arith; value_small = omega arith } }

-- the slot at an offset
slot_at-is : (s : Inside) (offset place byte : ℕ) → HasBuffers s → IsSpot s offset place byte → slot_at (map_of s) offset ≡ slot_in s.key_size s.value_size s.keys.items s.values.items s.taken place
slot_at-is s offset place byte ok is =
    let q : offset / rounded s.value_size ≡ place = rw (← ok.stride, is.sum) (div-mul-add place s.stride byte is.small) in
    rw q (get-slots_in s.key_size s.value_size s.keys.items s.values.items s.taken place is.within)

byte_at-is : (s : Inside) (offset place byte : ℕ) → HasBuffers s → IsSpot s offset place byte → byte_at (map_of s) offset ≡ byte
byte_at-is s offset place byte ok is = rw (← ok.stride, is.sum) (mod-mul-add place s.stride byte is.small)

-- the value of a taken slot
value_at : (s : Inside) → ℕ → List ℕ
value_at s place = part s.value_size (rounded s.value_size) s.values.items place

length-value_at : (s : Inside) (place : ℕ) → HasBuffers s → IsPlace s place → length (value_at s place) ≡ s.value_size
unfolding value_at
length-value_at s place ok p =
    let room : place * s.stride + s.stride ≤ length s.values.items = p.value in
    let step : s.value_size ≤ s.stride = ok.step in
    rw (← ok.stride) (length-part s.value_size s.stride s.values.items place (omega arith))

taken_slot : (s : Inside) (place : ℕ) → is_taken s.taken place ≡ true
    → slot_in s.key_size s.value_size s.keys.items s.values.items s.taken place ≡ Some (record { key = part s.key_size s.key_size s.keys.items place; value = value_at s place })
unfolding value_at
taken_slot s place seen = slot_in-taken s.key_size s.value_size s.keys.items s.values.items s.taken place _ _ seen refl refl

pub can_read-taken : (s : Inside) (offset place byte n : ℕ) → HasBuffers s → IsSpot s offset place byte → is_taken s.taken place ≡ true → can_read_in (map_of s) offset n ≡ nat_le (byte + n) s.value_size
unfolding can_read_in
can_read-taken s offset place byte n ok is seen = rw (slot_at-is s offset place byte ok is, byte_at-is s offset place byte ok is, taken_slot s place seen, length-value_at s place ok is.room) refl

-- tests of a byte and of a count that don't add them
fits-count : (byte n size : ℕ) → byte ≤ size → nat_le n (size - byte) ≡ nat_le (byte + n) size
fits-count byte n size below = elim (cases_lt (size - byte) n) [
  | inl over ↦ let past : size < byte + n = omega arith in rw (lt-leb n (size - byte) over, lt-leb (byte + n) size past) refl
  | inr fits ↦ let within : byte + n ≤ size = omega arith in rw (le-leb n (size - byte) fits, le-leb (byte + n) size within) refl
]

pub can_read-count : (s : Inside) (offset place byte n : ℕ) → HasBuffers s → IsSpot s offset place byte → is_taken s.taken place ≡ true → byte ≤ s.value_size → can_read_in (map_of s) offset n ≡ nat_le n (s.value_size - byte)
can_read-count s offset place byte n ok is seen below = can_read-taken s offset place byte n ok is seen ∙ sym (fits-count byte n s.value_size below)

pub can_read-behind : (s : Inside) (offset place byte n : ℕ) → HasBuffers s → IsSpot s offset place byte → is_taken s.taken place ≡ true → s.value_size < byte → can_read_in (map_of s) offset n ≡ nat_le byte s.value_size
can_read-behind s offset place byte n ok is seen past = rw (lt-leb byte s.value_size past) (can_read-taken s offset place byte n ok is seen ∙ lt-leb (byte + n) s.value_size (omega arith))

pub can_read-empty : (s : Inside) (offset place byte n : ℕ) → HasBuffers s → IsSpot s offset place byte → is_taken s.taken place ≡ false → can_read_in (map_of s) offset n ≡ false
unfolding can_read_in
can_read-empty s offset place byte n ok is unseen = rw (slot_at-is s offset place byte ok is, slot_in-empty s.key_size s.value_size s.keys.items s.values.items s.taken place unseen) refl

pub can_read-past : (s : Inside) (offset n : ℕ) → HasBuffers s → length s.taken ≤ offset / s.stride → can_read_in (map_of s) offset n ≡ false
unfolding can_read_in
can_read-past s offset n ok past =
    let long : length (map_of s).slots ≡ length s.taken = length-slots_in s.key_size s.value_size s.keys.items s.values.items s.taken in
    let beyond : length (map_of s).slots ≤ offset / rounded s.value_size = rw (← ok.stride) (omega arith) in
    rw (get_or_past (map_of s).slots (offset / rounded s.value_size) None beyond) refl

-- a byte of a value
byte_read : (s : Inside) (offset place byte : ℕ) → HasBuffers s → IsSpot s offset place byte → is_taken s.taken place ≡ true → byte < s.value_size → values_in (map_of s) offset ≡ Some (slice_index s.values.items offset)
unfolding values_in value_at
byte_read s offset place byte ok is seen small =
    let lv : length (value_at s place) ≡ s.value_size = length-value_at s place ok is.room in
    let within : byte < length (value_at s place) = omega arith in
    let got : slice_get (value_at s place) byte ≡ Some (slice_index (value_at s place) byte) = grind (arith, gets) in
    let at_offset : slice_index (value_at s place) byte ≡ slice_index s.values.items (place * s.stride + byte) = rw ok.stride (index-part s.value_size (rounded s.value_size) s.values.items place byte small) in
    let read : slice_get (value_at s place) byte ≡ Some (slice_index s.values.items offset) = rw is.sum (got ∙ ap (λ (x : ℕ). Some x) at_offset) in
    rw (slot_at-is s offset place byte ok is, byte_at-is s offset place byte ok is, taken_slot s place seen) read

byte_read-each : (s : Inside) (offset place byte n : ℕ) → HasBuffers s → IsSpot s offset place byte → is_taken s.taken place ≡ true → byte + n ≤ s.value_size
    → (i : ℕ) → i < n → unwrap_or (values_in (map_of s) (offset + i)) 0 ≡ slice_index s.values.items (offset + i)
byte_read-each s offset place byte n ok is seen fits i below =
    let step : s.value_size ≤ s.stride = ok.step in
    let off : offset ≡ place * s.stride + byte = is.sum in
    let moved : IsSpot s (offset + i) place (byte + i) = record { within = is.within; sum = omega arith; small = omega arith; room = is.room } in
    ap (λ (o : Option ℕ). unwrap_or o 0) (byte_read s (offset + i) place (byte + i) ok moved seen (omega arith))

-- the number in bytes of one value
pub number_read : (s : Inside) (offset place byte n : ℕ) → HasBuffers s → IsSpot s offset place byte → is_taken s.taken place ≡ true → byte + n ≤ s.value_size → number_at (values_in (map_of s)) offset n ≡ number_in s.values.items offset n
number_read s offset place byte n ok is seen fits = number_at-bytes n offset offset (values_in (map_of s)) s.values.items (byte_read-each s offset place byte n ok is seen fits)

-- a map after a write in a value
pub written_at : (s : Inside) (offset place byte : ℕ) (others values' : List ℕ) → HasBuffers s → IsSpot s offset place byte → values' ≡ with_bytes s.values.items offset others → byte + length others ≤ s.value_size
    → ◌≡◌ {A = Map} (record { kind = s.kind; key_size = s.key_size; value_size = s.value_size; slots = slots_in s.key_size s.value_size s.keys.items values' s.taken }) (map_written (map_of s) offset others)
unfolding map_written
written_at s offset place byte others values' ok is wrote fits =
    let q : offset / rounded s.value_size ≡ place = rw (← ok.stride, is.sum) (div-mul-add place s.stride byte is.small) in
    rw (byte_at-is s offset place byte ok is, q) (with_slots s.kind s.key_size s.value_size _ _ (value_written s ok place is.room others values' byte (rw is.sum at wrote) fits))

-- what it takes that bytes can be read
pub record IsRead (s : Inside) (offset n : ℕ) : Type 0 where
  pub spot : IsSpot s offset (offset / s.stride) (offset % s.stride)
  pub seen : is_taken s.taken (offset / s.stride) ≡ true
  pub fits : offset % s.stride + n ≤ s.value_size
  pub within : offset + n ≤ length s.values.items

pub read_facts : (s : Inside) (offset n : ℕ) → HasBuffers s → can_read_in (map_of s) offset n ≡ true → IsRead s offset n
read_facts s offset n ok can = elim (cases_lt (offset / s.stride) (length s.taken)) [
  | inr past ↦ absurd (false≢true (sym (can_read-past s offset n ok past) ∙ can))
  | inl within ↦
      let at_spot : IsSpot s offset (offset / s.stride) (offset % s.stride) = spot s offset ok within in
      elim (cases_Bool (is_taken s.taken (offset / s.stride))) [
        | inr unseen ↦ absurd (false≢true (sym (can_read-empty s offset _ _ n ok at_spot unseen) ∙ can))
        | inl seen ↦
            let small : offset % s.stride + n ≤ s.value_size = leb-true _ _ (sym (can_read-taken s offset _ _ n ok at_spot seen) ∙ can) in
            let sum : offset ≡ offset / s.stride * s.stride + offset % s.stride = at_spot.sum in
            let room : offset / s.stride * s.stride + s.stride ≤ length s.values.items = at_spot.room.value in
            let step : s.value_size ≤ s.stride = ok.step in
            record { spot = at_spot; seen = seen; fits = small; within = omega arith }
      ]
]

pub load_is : (s : Inside) (map : Map) (offset : ℕ) (size : Size) → map_of s ≡ map → HasBuffers s → can_read_in map offset (size_of size) ≡ true → Some (number_in s.values.items offset (size_of size)) ≡ load_in map offset size
unfolding load_in
load_is s map offset size is ok can =
    let facts : IsRead s offset (size_of size) = read_facts s offset (size_of size) ok (rw (← is) at can) in
    rw can (ap (λ (x : ℕ). Some x) (rw (← is) (sym (number_read s offset _ _ (size_of size) ok facts.spot facts.seen facts.fits))))

pub bytes_are : (s : Inside) (map : Map) (offset n : ℕ) → map_of s ≡ map → HasBuffers s → can_read_in map offset n ≡ true → Some (take n (drop offset s.values.items)) ≡ bytes_in map offset n
unfolding bytes_in
bytes_are s map offset n is ok can =
    let facts : IsRead s offset n = read_facts s offset n ok (rw (← is) at can) in
    let read : bytes_at (values_in (map_of s)) offset n ≡ take n (drop offset s.values.items) = bytes_at-bytes n offset offset (values_in (map_of s)) s.values.items facts.within (byte_read-each s offset _ _ n ok facts.spot facts.seen facts.fits) in
    rw can (ap (λ (xs : List ℕ). Some xs) (rw (← is) (sym read)))

and-false : (b : Bool) → (b && false) ≡ false
and-false true = refl
and-false false = refl

and-true : (b : Bool) → (b && true) ≡ b
and-true true = refl
and-true false = refl

pub write-shared : (map : Map) (offset n : ℕ) → is_shared map.kind ≡ true → can_write_in map offset n ≡ false
unfolding can_write_in
write-shared map offset n shared = rw (shared, and-false (can_read_in map offset n)) refl

pub write-own : (map : Map) (offset n : ℕ) → is_shared map.kind ≡ false → can_write_in map offset n ≡ can_read_in map offset n
unfolding can_write_in
write-own map offset n own = rw (own, and-true (can_read_in map offset n)) refl

-- the byte that an offset shows: none past the slots or in an empty one, and of a taken one those of its value
pub values_in-past : (s : Inside) (offset : ℕ) → HasBuffers s → length s.taken ≤ offset / s.stride → values_in (map_of s) offset ≡ None
unfolding values_in
values_in-past s offset ok past =
    let long : length (map_of s).slots ≡ length s.taken = length-slots_in s.key_size s.value_size s.keys.items s.values.items s.taken in
    let beyond : length (map_of s).slots ≤ offset / rounded s.value_size = rw (← ok.stride) (omega arith) in
    rw (get_or_past (map_of s).slots (offset / rounded s.value_size) None beyond) refl

pub values_in-empty : (s : Inside) (offset place byte : ℕ) → HasBuffers s → IsSpot s offset place byte → is_taken s.taken place ≡ false → values_in (map_of s) offset ≡ None
unfolding values_in
values_in-empty s offset place byte ok is unseen = rw (slot_at-is s offset place byte ok is, slot_in-empty s.key_size s.value_size s.keys.items s.values.items s.taken place unseen) refl

byte_past : (s : Inside) (offset place byte : ℕ) → HasBuffers s → IsSpot s offset place byte → is_taken s.taken place ≡ true → s.value_size ≤ byte → values_in (map_of s) offset ≡ None
unfolding values_in
byte_past s offset place byte ok is seen above =
    let lv : length (value_at s place) ≡ s.value_size = length-value_at s place ok is.room in
    let got : slice_get (value_at s place) byte ≡ None = grind (arith, gets) in
    rw (slot_at-is s offset place byte ok is, byte_at-is s offset place byte ok is, taken_slot s place seen) got

pub values_in-taken : (s : Inside) (offset place byte : ℕ) → HasBuffers s → IsSpot s offset place byte → is_taken s.taken place ≡ true → values_in (map_of s) offset ≡ (if nat_lt byte s.value_size then slice_get s.values.items offset else None)
values_in-taken s offset place byte ok is seen = elim (cases_lt byte s.value_size) [
  | inl small ↦
      let within : offset < length s.values.items = let a : offset ≡ place * s.stride + byte = is.sum in let b : place * s.stride + s.stride ≤ length s.values.items = is.room.value in let d : byte < s.stride = is.small in omega arith in
      let got : slice_get s.values.items offset ≡ Some (slice_index s.values.items offset) = grind (arith, gets) in
      rw (lt-ltb byte s.value_size small) (byte_read s offset place byte ok is seen small ∙ sym got)
  | inr above ↦ rw (le-ltb byte s.value_size above) (byte_past s offset place byte ok is seen above)
]
