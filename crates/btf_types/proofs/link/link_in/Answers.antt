use Rattle.std.proofs.Common.{◌≡◌, ◌+◌, ◌-◌, subst, arith}
use Rattle.btf_types.specs.Links.{IsLink}
use Rattle.btf_types.proofs.LinkLemmas.{links_at}
use Rattle.btf_types.proofs.link.link_in.Goals as goal

pub returns : goal.returns
returns c =
    let number : (c.args.number - 1) + 1 ≡ c.args.number = omega arith in
    subst (λ k. IsLink c.args.types.now k c.at.result.now) number (links_at c.args.types.now c.args.links.now (c.args.number - 1) _ c.requires.links c.at.ensures)
