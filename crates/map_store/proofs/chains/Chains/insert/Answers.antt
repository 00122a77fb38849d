use Rattle.std.proofs.Common.{◌≡◌, length, Some, ◌∙◌}
use Rattle.std.proofs.lemmas.List.{length-set}
use Rattle.map_store.proofs.Linking.{inserted}
use Rattle.map_store.proofs.chains.Chains.insert.Goals as goal

pub invariant_of-self : goal.invariant_of-self
invariant_of-self c =
    let slots : c.len-slots.result ≡ length c.self.inside.buckets.items = c.len-slots.ensures ∙ c.self.inside.buckets.ok.0 in
    rw (length-set c.self.inside.buckets.items c.args.place (Some c.args.bucket), c.link_place.ensures, c.link_place-2.ensures, slots)
    (inserted (length c.self.inside.buckets.items) c.self.inside.buckets.items c.self.inside.links.items c.args.place c.args.bucket c.last_before-before.result c.next-behind.result c.self.invariant
    (rw (← c.self.view_is) at c.requires.place) (rw (← c.self.view_is) at c.requires.bucket) (rw (← c.self.view_is) at c.last_before-before.ensures) (rw (← c.self.view_is) at c.requires.outside) (rw (← c.self.view_is) at c.next-behind.ensures))
