-- What stays of a map, as its buffers are written.
use Rattle.std.proofs.Common.{◌≡◌, ℕ, List, Vec, Global, length, ap, refl, sym, ◌∙◌}
use Rattle.std.proofs.Math.Seq.{map-set_same}
use Rattle.map_store.specs.Slots.{Map, map_at, shape_of, shapes, with_map}
use Rattle.map_store.specs.SlotsView.{map_of}
use Rattle.map_store.specs.declared.slots.Slots.TheInside.{Inside}
use Rattle.map_store.proofs.SlotLists.{length-slots_in}

pub shape-buffers : (s : Inside) → shape_of (map_of s) ≡ record { kind = s.kind; key_size = s.key_size; value_size = s.value_size; entries = length s.taken }
shape-buffers s = rw (length-slots_in s.key_size s.value_size s.keys.items s.values.items s.taken) refl

-- other values of the same slots
pub same-shape : (s : Inside) (values : Vec ℕ Global) (map : Map) → map_of s ≡ map → shape_of (map_of (record s { values = values })) ≡ shape_of map
same-shape s values map view = shape-buffers (record s { values = values }) ∙ (sym (shape-buffers s) ∙ ap shape_of view)

pub shapes-with : (maps : List Map) (number : ℕ) (map new : Map) → map_at maps number ≡ map → shape_of new ≡ shape_of map → shapes (with_map maps number new) ≡ shapes maps
shapes-with maps number map new there same = map-set_same shape_of maps number new _ (same ∙ ap shape_of (sym there))
