use Rattle.std.proofs.Common.{◌≡◌, ◌*◌, ◌≤◌, false, length, ap, refl, ◌∙◌, arith}
use Rattle.std.specs.Vec.{with_items}
use Rattle.flat_memory.specs.Numbers.{with_bytes}
use Rattle.flat_memory.proofs.Bytes.{length-with_bytes}
use Rattle.map_store.specs.Slots.{is_array}
use Rattle.map_store.specs.SlotsView.{AreBuckets}
use Rattle.map_store.proofs.Filing.{filled_buffers, empty_outside}
use Rattle.map_store.proofs.SlotRooms.{IsPlace, place_of_slots}
use Rattle.map_store.proofs.Writes.{with_slots}
use Rattle.map_store.proofs.Changes.{bytes_after, filled}
use Rattle.map_store.proofs.slots.Slots.fill.Goals as goal

pub overflow_mul-place : goal.overflow_mul-place
overflow_mul-place c = let p : IsPlace c.self.inside c.args.place = place_of_slots c.self.inside c.args.self.now c.args.place c.self.view_is c.self.invariant c.requires.place in omega arith

pub overflow_mul-place-2 : goal.overflow_mul-place-2
overflow_mul-place-2 c = let p : IsPlace c.self.inside c.args.place = place_of_slots c.self.inside c.args.self.now c.args.place c.self.view_is c.self.invariant c.requires.place in omega arith

pub copy_at-requires : goal.copy_at-requires
copy_at-requires c =
    let p : IsPlace c.self.inside c.args.place = place_of_slots c.self.inside c.args.self.now c.args.place c.self.view_is c.self.invariant c.requires.place in
    let size : length c.args.key.now ≡ c.self.inside.key_size = rw (← c.self.view_is) at c.requires.key in
    let is : length c.deref_mut.result.now ≡ length c.self.inside.keys.items = ap length c.deref_mut.ensures.value in
    omega arith

pub copy_at-requires-2 : goal.copy_at-requires-2
copy_at-requires-2 c =
    let p : IsPlace c.self.inside c.args.place = place_of_slots c.self.inside c.args.self.now c.args.place c.self.view_is c.self.invariant c.requires.place in
    let size : length c.args.value.now ≡ c.self.inside.value_size = rw (← c.self.view_is) at c.requires.value in
    let is : length c.deref_mut-2.result.now ≡ length c.self.inside.values.items = ap length c.deref_mut-2.ensures.value in
    omega arith

pub mark-requires : goal.mark-requires
mark-requires c = (place_of_slots c.self.inside c.args.self.now c.args.place c.self.view_is c.self.invariant c.requires.place).within

pub overflow_cast-place : goal.overflow_cast-place
overflow_cast-place c =
    let p : IsPlace c.self.inside c.args.place = place_of_slots c.self.inside c.args.self.now c.args.place c.self.view_is c.self.invariant c.requires.place in
    let few : length c.self.inside.taken ≤ 1048576 = c.self.invariant.few in
    omega arith

pub insert-requires-clause-place : goal.insert-requires-clause-place
insert-requires-clause-place c =
    let p : IsPlace c.self.inside c.args.place = place_of_slots c.self.inside c.args.self.now c.args.place c.self.view_is c.self.invariant c.requires.place in
    let hash : is_array c.self.inside.kind ≡ false = rw (← c.self.view_is) at c.requires.kind in
    let buckets : AreBuckets c.self.inside.key_size c.self.inside.keys.items c.self.inside.taken c.self.inside.chains = c.self.invariant.buckets hash in
    rw buckets.count p.within

pub insert-requires-clause-outside : goal.insert-requires-clause-outside
insert-requires-clause-outside c =
    let p : IsPlace c.self.inside c.args.place = place_of_slots c.self.inside c.args.self.now c.args.place c.self.view_is c.self.invariant c.requires.place in
    let hash : is_array c.self.inside.kind ≡ false = rw (← c.self.view_is) at c.requires.kind in
    empty_outside c.self.inside c.args.self.now c.args.place c.self.view_is c.self.invariant hash p.within c.requires.empty

pub invariant_of-self : goal.invariant_of-self
invariant_of-self c =
    let p : IsPlace c.self.inside c.args.place = place_of_slots c.self.inside c.args.self.now c.args.place c.self.view_is c.self.invariant c.requires.place in
    let hash : is_array c.self.inside.kind ≡ false = rw (← c.self.view_is) at c.requires.kind in
    let size : length c.args.key.now ≡ c.self.inside.key_size = rw (← c.self.view_is) at c.requires.key in
    let size' : length c.args.value.now ≡ c.self.inside.value_size = rw (← c.self.view_is) at c.requires.value in
    let values : (with_items c.self.inside.values c.copy_at-2.new.bytes).items ≡ with_bytes c.self.inside.values.items (c.args.place * c.self.inside.stride) c.args.value.now =
    bytes_after c.self.inside.values c.deref_mut-2.result.now c.copy_at-2.new.bytes c.args.value.now (c.args.place * c.self.inside.stride) c.deref_mut-2.ensures.value c.copy_at-2.ensures (omega arith) in
    filled_buffers c.self.inside _ c.args.place c.bucket_of-bucket.result c.args.key.now c.self.invariant p hash refl refl refl refl
    (bytes_after c.self.inside.keys c.deref_mut.result.now c.copy_at.new.bytes c.args.key.now (c.args.place * c.self.inside.key_size) c.deref_mut.ensures.value c.copy_at.ensures (omega arith))
    (ap length values ∙ length-with_bytes c.self.inside.values.items (c.args.place * c.self.inside.stride) c.args.value.now (omega arith))
    c.mark.ensures c.insert.ensures size (rw c.len.ensures at c.bucket_of-bucket.ensures.bucket)

pub returns : goal.returns
returns c =
    let p : IsPlace c.self.inside c.args.place = place_of_slots c.self.inside c.args.self.now c.args.place c.self.view_is c.self.invariant c.requires.place in
    let size : length c.args.key.now ≡ c.self.inside.key_size = rw (← c.self.view_is) at c.requires.key in
    let size' : length c.args.value.now ≡ c.self.inside.value_size = rw (← c.self.view_is) at c.requires.value in
    rw (← c.self.view_is, c.mark.ensures) (with_slots c.self.inside.kind c.self.inside.key_size c.self.inside.value_size _ _
    (filled c.self.inside c.self.invariant c.args.place p c.args.key.now c.args.value.now _ _
    (bytes_after c.self.inside.keys c.deref_mut.result.now c.copy_at.new.bytes c.args.key.now (c.args.place * c.self.inside.key_size) c.deref_mut.ensures.value c.copy_at.ensures (omega arith))
    (bytes_after c.self.inside.values c.deref_mut-2.result.now c.copy_at-2.new.bytes c.args.value.now (c.args.place * c.self.inside.stride) c.deref_mut-2.ensures.value c.copy_at-2.ensures (omega arith))
    size size'))
