use Rattle.std.proofs.Common.{◌≡◌, ◌<◌, length, ap, ◌∙◌, arith}
use Rattle.std.proofs.lemmas.List.{length-set}
use Rattle.btf_types.proofs.LinkLemmas.{links_set}
use Rattle.btf_types.proofs.link.lengthen.Goals as goal

pub loop-place-preserved : goal.loop-place-preserved
loop-place-preserved c =
    let so_far = c.loop-place.invariant in
    let links = c.loop-place.links in
    let below : c.loop-place.place < length links = omega (arith, so_far.same, c.len-place-end.ensures) in
    let len : length c.set.new.self ≡ length links = ap length c.set.ensures ∙ length-set links c.loop-place.place c.longer-link.result in
    record {
      links = rw c.set.ensures (links_set c.args.types.now links c.loop-place.place c.longer-link.result so_far.links below c.longer-link.ensures);
      known = omega (arith, len, so_far.known);
      same = len ∙ so_far.same;
    }
