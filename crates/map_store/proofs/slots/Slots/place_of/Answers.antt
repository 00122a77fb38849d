use Rattle.std.proofs.Common.{◌≡◌, sym, ◌∙◌, true, false, nat_eq, length}
use Rattle.std.specs.Cmp.Lexicographic.{pointwise}
use Rattle.byteorder.specs.Endian.{little_bytes}
use Rattle.map_store.specs.Slots.{has_key, is_array, place_of}
use Rattle.map_store.specs.SlotsView.{IsFirst, AreBuckets, has_key_at}
use Rattle.map_store.proofs.Places.{IsPlaceIn, key_place, index_place}
use Rattle.map_store.proofs.slots.Slots.place_of.Goals as goal

pub returns-then-is_array-clause-place : goal.returns-then-is_array-clause-place
unfolding place_of
returns-then-is_array-clause-place c =
    let found : IsFirst (λ i. pointwise nat_eq (little_bytes 4 i) c.args.key.now) (length c.self.inside.taken) c.index_of.result = rw c.len.ensures at c.index_of.ensures in
    let array : is_array c.self.inside.kind ≡ true = sym c.is_array.ensures ∙ c.if-is_array.true in
    let p : IsPlaceIn (has_key c.args.key.now) c.args.self.now.slots c.index_of.result = index_place c.self.inside c.args.self.now c.args.key.now c.index_of.result c.self.view_is c.self.invariant array found in
    p.place

pub returns-then-is_array-clause-within : goal.returns-then-is_array-clause-within
returns-then-is_array-clause-within c =
    let found : IsFirst (λ i. pointwise nat_eq (little_bytes 4 i) c.args.key.now) (length c.self.inside.taken) c.index_of.result = rw c.len.ensures at c.index_of.ensures in
    let array : is_array c.self.inside.kind ≡ true = sym c.is_array.ensures ∙ c.if-is_array.true in
    let p : IsPlaceIn (has_key c.args.key.now) c.args.self.now.slots c.index_of.result = index_place c.self.inside c.args.self.now c.args.key.now c.index_of.result c.self.view_is c.self.invariant array found in
    p.within

pub first_key-requires : goal.first_key-requires
first_key-requires c =
    let hash : is_array c.self.inside.kind ≡ false = sym c.is_array.ensures ∙ c.if-is_array.false in
    let buckets : AreBuckets c.self.inside.key_size c.self.inside.keys.items c.self.inside.taken c.self.inside.chains = c.self.invariant.buckets hash in
    let size : length c.args.key.now ≡ c.self.inside.key_size = rw (← c.self.view_is) at c.requires in
    record {
      slots = rw buckets.count c.self.invariant.slots;
      few = rw buckets.count c.self.invariant.few;
      keys = rw (c.deref.ensures.value, buckets.count, size) c.self.invariant.keys;
      small = rw c.deref.ensures.value c.self.invariant.keys_room;
      buckets = rw (c.deref.ensures.value, size) buckets.own;
    }

pub returns-else-is_array-clause-place : goal.returns-else-is_array-clause-place
unfolding place_of
returns-else-is_array-clause-place c =
    let hash : is_array c.self.inside.kind ≡ false = sym c.is_array.ensures ∙ c.if-is_array.false in
    let found : IsFirst (has_key_at c.self.inside.keys.items c.self.inside.chains c.args.key.now) (length c.self.inside.chains) c.first_key.result = rw c.deref.ensures.value at c.first_key.ensures in
    let p : IsPlaceIn (has_key c.args.key.now) c.args.self.now.slots c.first_key.result = key_place c.self.inside c.args.self.now c.args.key.now c.first_key.result c.self.view_is c.requires (c.self.invariant.buckets hash) found in
    p.place

pub returns-else-is_array-clause-within : goal.returns-else-is_array-clause-within
returns-else-is_array-clause-within c =
    let hash : is_array c.self.inside.kind ≡ false = sym c.is_array.ensures ∙ c.if-is_array.false in
    let found : IsFirst (has_key_at c.self.inside.keys.items c.self.inside.chains c.args.key.now) (length c.self.inside.chains) c.first_key.result = rw c.deref.ensures.value at c.first_key.ensures in
    let p : IsPlaceIn (has_key c.args.key.now) c.args.self.now.slots c.first_key.result = key_place c.self.inside c.args.self.now c.args.key.now c.first_key.result c.self.view_is c.requires (c.self.invariant.buckets hash) found in
    p.within
