use Rattle.std.proofs.Common.{◌+◌, ◌∷◌, [], length, length-append, ap, refl, sym, subst, arith}
use Rattle.btf_types.specs.Links.{IsLink}
use Rattle.btf_types.proofs.LinkLemmas.{links_none, links_push}
use Rattle.btf_types.proofs.link.first_links.Goals as goal

pub loop-place-init : goal.loop-place-init
loop-place-init c = rw c.new-links.ensures (record { links = links_none c.args.types.now; known = refl })

pub loop-place-preserved : goal.loop-place-preserved
loop-place-preserved c =
    let so_far = c.loop-place.invariant in
    let links = c.loop-place.links in
    let link = c.first_link.result in
    let here = subst (λ k. IsLink c.args.types.now (k + 1) link) (sym so_far.known) c.first_link.ensures in
    record {
      links = rw c.in_ok-push.ensures.ok (links_push c.args.types.now links link so_far.links here);
      known = omega (arith, so_far.known, ap length c.in_ok-push.ensures.ok, length-append links (link ∷ []));
    }
