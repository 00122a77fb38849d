use Rattle.std.proofs.Common.{◌≡◌, ◌+◌, ◌<◌, set, drop, length, ap, sym, ◌∙◌, arith}
use Rattle.std.proofs.lemmas.List.{length-set}
use Rattle.map_store.proofs.Trees.{numbered, marked_whole}
use Rattle.map_store.proofs.occupancy.Occupancy.mark.Goals as goal

pub settle_above-requires-clause-nodes : goal.settle_above-requires-clause-nodes
settle_above-requires-clause-nodes c =
    let slots : c.len-slots.result ≡ length c.self.inside.taken.items = c.len-slots.ensures ∙ c.self.inside.taken.ok.0 in
    rw (c.deref_mut.ensures.value, slots) (numbered (length c.self.inside.taken.items) c.self.inside.least.items (length c.self.inside.taken.items + c.args.place) c.slot_number.result (omega arith) c.self.invariant.nodes)

pub invariant_of-self : goal.invariant_of-self
invariant_of-self c =
    let slots : c.len-slots.result ≡ length c.self.inside.taken.items = c.len-slots.ensures ∙ c.self.inside.taken.ok.0 in
    let within : c.args.place < length c.self.inside.taken.items = rw (← c.self.view_is) at c.requires in
    let same : length (set c.self.inside.least.items (c.len-slots.result + c.args.place) c.slot_number.result) ≡ length c.self.inside.least.items = length-set c.self.inside.least.items (c.len-slots.result + c.args.place) c.slot_number.result in
    let long : length c.settle_above.new.least ≡ length c.self.inside.least.items = c.settle_above.auto.least ∙ ap length c.deref_mut.ensures.value ∙ same in
    marked_whole c.self.inside.taken.items c.self.inside.least.items c.settle_above.new.least (drop (length c.settle_above.new.least) (set c.self.inside.least.items (c.len-slots.result + c.args.place) c.slot_number.result)) c.self.inside.least.len c.args.place c.slot_number.result c.args.is_taken
    c.self.invariant within (rw slots at c.slot_number.ensures) long (rw (c.deref_mut.ensures.value, slots) at c.settle_above.ensures.numbers) (rw slots at c.settle_above.ensures.nodes) (c.self.inside.least.ok.0 ∙ sym long)
