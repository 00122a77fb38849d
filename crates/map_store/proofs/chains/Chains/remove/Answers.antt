use Rattle.std.proofs.Common.{◌≡◌, ◌<◌, length, get_or, Some, None, sym, ◌∙◌}
use Rattle.std.proofs.lemmas.List.{length-set, get_or_read}
use Rattle.map_store.proofs.Linking.{removed}
use Rattle.map_store.proofs.chains.Chains.remove.Goals as goal

pub last_before-before-requires : goal.last_before-before-requires
last_before-before-requires c =
    let within : c.args.place < length c.self.inside.buckets.items = rw (← c.self.view_is) at c.requires in
    let seen : get_or c.self.inside.buckets.items c.args.place None ≡ Some c.in-Some.bucket = sym (get_or_read c.self.inside.buckets.items c.args.place c.index.result.now within c.index.ensures None) ∙ c.in-Some.is in
    rw (← c.self.view_is) (c.self.invariant.within c.args.place c.in-Some.bucket seen)

pub invariant_of-self : goal.invariant_of-self
invariant_of-self c =
    let slots : c.len-slots.result ≡ length c.self.inside.buckets.items = c.len-slots.ensures ∙ c.self.inside.buckets.ok.0 in
    let within : c.args.place < length c.self.inside.buckets.items = rw (← c.self.view_is) at c.requires in
    let seen : get_or c.self.inside.buckets.items c.args.place None ≡ Some c.in-Some.bucket = sym (get_or_read c.self.inside.buckets.items c.args.place c.index.result.now within c.index.ensures None) ∙ c.in-Some.is in
    rw (length-set c.self.inside.buckets.items c.args.place None, c.link_place.ensures, slots)
    (removed (length c.self.inside.buckets.items) c.self.inside.buckets.items c.self.inside.links.items c.args.place c.in-Some.bucket c.last_before-before.result c.next-behind.result c.self.invariant
    within seen (rw (← c.self.view_is) at c.last_before-before.ensures) (rw (← c.self.view_is) at c.next-behind.ensures))
