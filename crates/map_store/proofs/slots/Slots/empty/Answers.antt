use Rattle.std.proofs.Common.{◌≡◌, ◌≤◌, false, length, refl, arith}
use Rattle.map_store.specs.Slots.{is_array}
use Rattle.map_store.specs.SlotsView.{AreBuckets}
use Rattle.map_store.proofs.SlotRooms.{IsPlace, place_of_slots}
use Rattle.map_store.proofs.Writes.{with_slots}
use Rattle.map_store.proofs.Changes.{emptied_at}
use Rattle.map_store.proofs.Filing.{emptied_buffers}
use Rattle.map_store.proofs.slots.Slots.empty.Goals as goal

pub mark-requires : goal.mark-requires
mark-requires c = (place_of_slots c.self.inside c.args.self.now c.args.place c.self.view_is c.self.invariant c.requires.place).within

pub overflow_cast-place : goal.overflow_cast-place
overflow_cast-place c =
    let p : IsPlace c.self.inside c.args.place = place_of_slots c.self.inside c.args.self.now c.args.place c.self.view_is c.self.invariant c.requires.place in
    let few : length c.self.inside.taken ≤ 1048576 = c.self.invariant.few in
    omega arith

pub remove-requires : goal.remove-requires
remove-requires c =
    let p : IsPlace c.self.inside c.args.place = place_of_slots c.self.inside c.args.self.now c.args.place c.self.view_is c.self.invariant c.requires.place in
    let hash : is_array c.self.inside.kind ≡ false = rw (← c.self.view_is) at c.requires.kind in
    let buckets : AreBuckets c.self.inside.key_size c.self.inside.keys.items c.self.inside.taken c.self.inside.chains = c.self.invariant.buckets hash in
    rw buckets.count p.within

pub invariant_of-self : goal.invariant_of-self
invariant_of-self c =
    let p : IsPlace c.self.inside c.args.place = place_of_slots c.self.inside c.args.self.now c.args.place c.self.view_is c.self.invariant c.requires.place in
    let hash : is_array c.self.inside.kind ≡ false = rw (← c.self.view_is) at c.requires.kind in
    emptied_buffers c.self.inside _ c.args.place c.self.invariant hash p.within refl refl refl refl refl refl c.mark.ensures c.remove.ensures

pub returns : goal.returns
returns c =
    let p : IsPlace c.self.inside c.args.place = place_of_slots c.self.inside c.args.self.now c.args.place c.self.view_is c.self.invariant c.requires.place in
    rw (← c.self.view_is, c.mark.ensures) (with_slots c.self.inside.kind c.self.inside.key_size c.self.inside.value_size _ _ (emptied_at c.self.inside c.self.invariant c.args.place p))
