use Rattle.std.proofs.Common.{◌≡◌, ◌<◌, length, get_or, None, ◌∙◌}
use Rattle.std.proofs.lemmas.List.{get_or_read}
use Rattle.map_store.specs.Buckets.{IsIn, link_place}
use Rattle.map_store.proofs.Linking.{link_within}
use Rattle.map_store.proofs.chains.Chains.next.Goals as goal

pub returns : goal.returns
returns c =
    let slots : c.len.result ≡ length c.self.inside.buckets.items = c.len.ensures ∙ c.self.inside.buckets.ok.0 in
    let spot : c.link_place.result ≡ link_place (length c.self.inside.buckets.items) c.args.bucket c.args.before = rw slots at c.link_place.ensures in
    let within : c.args.bucket < length c.self.inside.buckets.items = rw (← c.self.view_is) at c.requires.bucket in
    let is : IsIn c.self.inside.buckets.items c.args.bucket c.args.before = rw (← c.self.view_is) at c.requires.before in
    let small : link_place (length c.self.inside.buckets.items) c.args.bucket c.args.before < length c.self.inside.links.items =
    rw c.self.invariant.size (link_within (length c.self.inside.buckets.items) c.self.inside.buckets.items c.self.inside.links.items c.args.bucket c.args.before c.self.invariant within is) in
    let read : c.index.result.now ≡ get_or c.self.inside.links.items (link_place (length c.self.inside.buckets.items) c.args.bucket c.args.before) None =
    get_or_read c.self.inside.links.items (link_place (length c.self.inside.buckets.items) c.args.bucket c.args.before) c.index.result.now small (rw spot at c.index.ensures) None in
    rw (← c.self.view_is, read) (c.self.invariant.next c.args.bucket c.args.before within is)
