-- The values of a map, and of all maps, as memory.
use mathlib.Core.Path.{fun_ext}
use Rattle.std.proofs.Common.{◌≡◌, ℕ, ◌+◌, ◌-◌, ◌*◌, ◌/◌, ◌%◌, ◌<◌, ◌≤◌, ◌⊎◌, inl, inr, Bool, true, false, nat_lt, ◌&&◌, if◌then◌else◌, List, set, length, slice_get, None, refl, sym, ap, ◌∙◌, arith}
use Rattle.std.proofs.lemmas.Bool.{cases_lt, cases_eq, cases_Bool, le-leb, lt-leb, lt-ltb, le-ltb}
use Rattle.std.proofs.lemmas.List.{get_or_past, get_or-set_same, get_or-set_other}
use Rattle.std.proofs.lemmas.Nat.{div-mul-add, mod-mul-add}
use Rattle.flat_memory.specs.Memory.{Memory, masked, written}
use Rattle.flat_memory.specs.Numbers.{with_bytes}
use Rattle.flat_memory.proofs.Bytes.{length-with_bytes}
use Rattle.flat_memory.proofs.Laws.{masked-shown, masked-hidden, masked-write, written-here, written-elsewhere, cases_range}
use Rattle.map_store.specs.Spec.{rounded}
use Rattle.map_store.specs.Slots.{Map, map_at}
use Rattle.map_store.specs.Values.{values_start, number_of, offset_of, values_in, values}
use Rattle.map_store.specs.Occupied.{is_taken}
use Rattle.map_store.specs.SlotsView.{map_of, HasBuffers}
use Rattle.map_store.specs.declared.slots.Slots.TheInside.{Inside}
use Rattle.map_store.proofs.Access.{IsSpot, IsRead, spot, values_in-taken, values_in-empty, values_in-past}

-- the places of the buffer that values show
shown : List Bool → ℕ → ℕ → ℕ → Bool
shown taken stride size offset = is_taken taken (offset / stride) && nat_lt (offset % stride) size

shown-true : (taken : List Bool) (stride size offset : ℕ) → is_taken taken (offset / stride) ≡ true → offset % stride < size → shown taken stride size offset ≡ true
unfolding shown
shown-true taken stride size offset seen small = rw (seen, lt-ltb (offset % stride) size small) refl

shown-empty : (taken : List Bool) (stride size offset : ℕ) → is_taken taken (offset / stride) ≡ false → shown taken stride size offset ≡ false
unfolding shown
shown-empty taken stride size offset unseen = rw unseen refl

shown-past : (taken : List Bool) (stride size offset : ℕ) → is_taken taken (offset / stride) ≡ true → size ≤ offset % stride → shown taken stride size offset ≡ false
unfolding shown
shown-past taken stride size offset seen above = rw (seen, le-ltb (offset % stride) size above) refl

is_taken-past : (taken : List Bool) (place : ℕ) → length taken ≤ place → is_taken taken place ≡ false
unfolding is_taken
is_taken-past taken place past = get_or_past taken place false past

masked_at : (mask : ℕ → Bool) (bytes : List ℕ) (k : ℕ) → mask k ≡ true → masked 0 mask bytes k ≡ slice_get bytes k
masked_at mask bytes k seen = let e : 0 + k ≡ k = omega arith in rw e at (masked-shown 0 mask bytes k seen)

unmasked_at : (mask : ℕ → Bool) (bytes : List ℕ) (k : ℕ) → mask k ≡ false → masked 0 mask bytes k ≡ None
unmasked_at mask bytes k unseen = let e : 0 + k ≡ k = omega arith in rw e at (masked-hidden 0 mask bytes k unseen)

values_at : (s : Inside) → HasBuffers s → (offset : ℕ) → values_in (map_of s) offset ≡ masked 0 (shown s.taken s.stride s.value_size) s.values.items offset
values_at s ok offset = elim (cases_lt (offset / s.stride) (length s.taken)) [
  | inr past ↦ values_in-past s offset ok past ∙ sym (unmasked_at _ s.values.items offset (shown-empty s.taken s.stride s.value_size offset (is_taken-past s.taken (offset / s.stride) past)))
  | inl within ↦
      let here : IsSpot s offset (offset / s.stride) (offset % s.stride) = spot s offset ok within in
      elim (cases_Bool (is_taken s.taken (offset / s.stride))) [
        | inr unseen ↦ values_in-empty s offset _ _ ok here unseen ∙ sym (unmasked_at _ s.values.items offset (shown-empty s.taken s.stride s.value_size offset unseen))
        | inl seen ↦ values_in-taken s offset _ _ ok here seen ∙ taken_byte s offset here seen
      ]
]
  where
    taken_byte : (s : Inside) (offset : ℕ) → IsSpot s offset (offset / s.stride) (offset % s.stride) → is_taken s.taken (offset / s.stride) ≡ true
        → (if nat_lt (offset % s.stride) s.value_size then slice_get s.values.items offset else None) ≡ masked 0 (shown s.taken s.stride s.value_size) s.values.items offset
    taken_byte s offset here seen = elim (cases_lt (offset % s.stride) s.value_size) [
      | inl small ↦ rw (lt-ltb (offset % s.stride) s.value_size small) (sym (masked_at _ s.values.items offset (shown-true s.taken s.stride s.value_size offset seen small)))
      | inr above ↦ rw (le-ltb (offset % s.stride) s.value_size above) (sym (unmasked_at _ s.values.items offset (shown-past s.taken s.stride s.value_size offset seen above)))
    ]

values_are-masked : (s : Inside) → HasBuffers s → values_in (map_of s) ≡ masked 0 (shown s.taken s.stride s.value_size) s.values.items
values_are-masked s ok = fun_ext (λ offset. values_at s ok offset)

-- buffers with bytes written over the values
buffers_after : (s t : Inside) (offset : ℕ) (bytes : List ℕ) → HasBuffers s → t.kind ≡ s.kind → t.key_size ≡ s.key_size → t.value_size ≡ s.value_size → t.stride ≡ s.stride → t.keys.items ≡ s.keys.items → t.taken ≡ s.taken → t.chains ≡ s.chains
    → t.values.items ≡ with_bytes s.values.items offset bytes → offset + length bytes ≤ length s.values.items → HasBuffers t
buffers_after s t offset bytes ok kind key value stride keys taken chains wrote fits =
    let long : length t.values.items ≡ length s.values.items = ap length wrote ∙ length-with_bytes s.values.items offset bytes fits in
    record {
      stride = stride ∙ ok.stride ∙ ap rounded (sym value);
      keys = rw (keys, taken, key) ok.keys;
      values = rw (long, taken, stride) ok.values;
      step = rw (value, stride) ok.step;
      some = rw stride ok.some;
      room = rw long ok.room;
      keys_room = rw keys ok.keys_room;
      key_small = rw key ok.key_small;
      value_small = rw value ok.value_small;
      slots = rw taken ok.slots;
      few = rw taken ok.few;
      array = rw (kind, key) ok.array;
      indices = rw (kind, taken, keys) ok.indices;
      buckets = rw (kind, key, keys, taken, chains) ok.buckets;
    }

pub values_after : (s t : Inside) (offset : ℕ) (bytes : List ℕ) → HasBuffers s → IsRead s offset (length bytes)
    → t.kind ≡ s.kind → t.key_size ≡ s.key_size → t.value_size ≡ s.value_size → t.stride ≡ s.stride → t.keys.items ≡ s.keys.items → t.taken ≡ s.taken → t.chains ≡ s.chains
    → t.values.items ≡ with_bytes s.values.items offset bytes → values_in (map_of t) ≡ written (values_in (map_of s)) offset bytes
values_after s t offset bytes ok facts kind key value stride keys taken chains wrote =
    let ok' : HasBuffers t = buffers_after s t offset bytes ok kind key value stride keys taken chains wrote facts.within in
    let mask : ℕ → Bool = shown s.taken s.stride s.value_size in
    let sum : offset ≡ offset / s.stride * s.stride + offset % s.stride = facts.spot.sum in
    let step : s.value_size ≤ s.stride = ok.step in
    let fits : offset % s.stride + length bytes ≤ s.value_size = facts.fits in
    let seen : (i : ℕ) → i < length bytes → mask (offset + i) ≡ true = λ i below.
    let spread : offset + i ≡ offset / s.stride * s.stride + (offset % s.stride + i) = omega arith in
    let small : offset % s.stride + i < s.stride = omega arith in
    let q : (offset + i) / s.stride ≡ offset / s.stride = rw spread (div-mul-add (offset / s.stride) s.stride (offset % s.stride + i) small) in
    let r : (offset + i) % s.stride ≡ offset % s.stride + i = rw spread (mod-mul-add (offset / s.stride) s.stride (offset % s.stride + i) small) in
    shown-true s.taken s.stride s.value_size (offset + i) (rw q facts.seen) (rw r (omega arith)) in
    let zero : 0 + offset ≡ offset = omega arith in
    values_are-masked t ok'
    ∙ rw (taken, stride, value, wrote) refl
    ∙ (rw zero at (masked-write 0 mask s.values.items bytes offset facts.within seen))
    ∙ ap (λ (m : Memory). written m offset bytes) (sym (values_are-masked s ok))

-- the maps after a write in one of them
other_map : (maps : List Map) (number other : ℕ) (new : Map) → (other ≡ number → ⊥) → map_at (set maps number new) other ≡ map_at maps other
other_map maps number other new apart = get_or-set_other maps number other new _ apart

same_map : (maps : List Map) (number : ℕ) (new : Map) → number < length maps → map_at (set maps number new) number ≡ new
same_map maps number new within = get_or-set_same maps number new _ within

values_above : (maps : List Map) (x : ℕ) → values_start ≤ x → values maps x ≡ values_in (map_at maps (number_of x)) (offset_of x)
unfolding values
values_above maps x above = rw (le-leb values_start x above) refl

values_below : (maps : List Map) (x : ℕ) → x < values_start → values maps x ≡ None
unfolding values
values_below maps x below = rw (lt-leb values_start x below) refl

pub values_written : (maps : List Map) (map new : Map) (address : ℕ) (bytes : List ℕ) → values_start ≤ address → number_of address < length maps → map_at maps (number_of address) ≡ map
    → offset_of address + length bytes ≤ 4194304 → values_in new ≡ written (values_in map) (offset_of address) bytes
    → values (set maps (number_of address) new) ≡ written (values maps) address bytes
values_written maps map new address bytes above within is small wrote = fun_ext (λ x. elim (cases_lt x values_start) [
  | inl below ↦ values_below _ x below ∙ sym (written-elsewhere (values maps) address bytes x (inl (omega arith)) ∙ values_below maps x below)
  | inr up ↦ elim (cases_eq (number_of x) (number_of address)) [
    | inr apart ↦
        let outside : (x < address) ⊎ (address + length bytes ≤ x) = apart_range x address (length bytes) above up small apart in
        values_above _ x up ∙ ap (λ (m : Map). values_in m (offset_of x)) (other_map maps (number_of address) (number_of x) new apart)
        ∙ sym (written-elsewhere (values maps) address bytes x outside ∙ values_above maps x up)
    | inl same ↦
        let there : map_at (set maps (number_of address) new) (number_of x) ≡ new = rw same (same_map maps (number_of address) new within) in
        let old : map_at maps (number_of x) ≡ map = rw same is in
        values_above _ x up ∙ ap (λ (m : Map). values_in m (offset_of x)) there ∙ ap (λ (m : Memory). m (offset_of x)) wrote
        ∙ room_byte maps map address bytes x above up same old
  ]
])
  where
    apart_range : (x address n : ℕ) → values_start ≤ address → values_start ≤ x → offset_of address + n ≤ 4194304 → (number_of x ≡ number_of address → ⊥) → (x < address) ⊎ (address + n ≤ x)
    apart_range x address n above up small apart = elim (cases_lt x address) [
      | inl before ↦ inl before
      | inr behind ↦ elim (cases_lt x (address + n)) [
        | inr past ↦ inr past
        | inl inside ↦ absurd (apart (omega arith))
      ]
    ]

    room_byte : (maps : List Map) (map : Map) (address : ℕ) (bytes : List ℕ) (x : ℕ) → values_start ≤ address → values_start ≤ x → number_of x ≡ number_of address → map_at maps (number_of x) ≡ map
        → written (values_in map) (offset_of address) bytes (offset_of x) ≡ written (values maps) address bytes x
    room_byte maps map address bytes x above up same is = elim (cases_range x address (length bytes)) [
      | inl outside ↦
          written-elsewhere (values_in map) (offset_of address) bytes (offset_of x) (elim outside [ inl before ↦ inl (omega arith) | inr behind ↦ inr (omega arith) ])
          ∙ sym (written-elsewhere (values maps) address bytes x outside ∙ values_above maps x up ∙ ap (λ (m : Map). values_in m (offset_of x)) is)
      | inr inside ↦
          let off : offset_of address + (x - address) ≡ offset_of x = omega arith in
          let off' : address + (x - address) ≡ x = omega arith in
          (rw off at (written-here (values_in map) (offset_of address) bytes (x - address) (omega arith)))
          ∙ sym (rw off' at (written-here (values maps) address bytes (x - address) (omega arith)))
    ]
