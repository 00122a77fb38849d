use Rattle.std.proofs.Common.{◌≡◌, ◌*◌, length, ap, arith}
use Rattle.map_store.proofs.SlotRooms.{IsPlace, place_of_slots}
use Rattle.map_store.proofs.Writes.{with_slots}
use Rattle.std.specs.Vec.{with_items}
use Rattle.map_store.proofs.Shapes.{same-shape}
use Rattle.map_store.proofs.Changes.{bytes_after, value_set}
use Rattle.map_store.proofs.slots.Slots.set_value.Goals as goal

pub overflow_mul-place : goal.overflow_mul-place
overflow_mul-place c = let p : IsPlace c.self.inside c.args.place = place_of_slots c.self.inside c.args.self.now c.args.place c.self.view_is c.self.invariant c.requires.place in omega arith

pub copy_at-requires : goal.copy_at-requires
copy_at-requires c =
    let p : IsPlace c.self.inside c.args.place = place_of_slots c.self.inside c.args.self.now c.args.place c.self.view_is c.self.invariant c.requires.place in
    let size : length c.args.value.now ≡ c.self.inside.value_size = rw (← c.self.view_is) at c.requires.value in
    let is : length c.deref_mut.result.now ≡ length c.self.inside.values.items = ap length c.deref_mut.ensures.value in
    omega arith

pub returns-clause-entry : goal.returns-clause-entry
returns-clause-entry c =
    let p : IsPlace c.self.inside c.args.place = place_of_slots c.self.inside c.args.self.now c.args.place c.self.view_is c.self.invariant c.requires.place in
    let size : length c.args.value.now ≡ c.self.inside.value_size = rw (← c.self.view_is) at c.requires.value in
    λ key has. rw (← c.self.view_is) (with_slots c.self.inside.kind c.self.inside.key_size c.self.inside.value_size _ _
    (value_set c.self.inside c.self.invariant c.args.place p key c.args.value.now _
    (bytes_after c.self.inside.values c.deref_mut.result.now c.copy_at.new.bytes c.args.value.now (c.args.place * c.self.inside.stride) c.deref_mut.ensures.value c.copy_at.ensures (omega arith))
    size (rw (← c.self.view_is) at has)))

pub returns-clause-shape : goal.returns-clause-shape
returns-clause-shape c = same-shape c.self.inside (with_items c.self.inside.values c.copy_at.new.bytes) c.args.self.now c.self.view_is
