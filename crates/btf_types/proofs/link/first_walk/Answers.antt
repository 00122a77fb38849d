use Rattle.std.proofs.Common.{sym}
use Rattle.btf_types.proofs.LinkLemmas.{first_elements, first_target}
use Rattle.btf_types.proofs.link.first_walk.Goals as goal

pub returns-in-OfTarget : goal.returns-in-OfTarget
returns-in-OfTarget c =
    first_target c.args.types.now c.args.number _ _ c.none-scale.ensures c.requires (sym c.in-OfTarget.ensures.sizing) c.in-OfTarget.ensures.in_range

pub returns-in-OfElements : goal.returns-in-OfElements
returns-in-OfElements c =
    first_elements c.args.types.now c.args.number _ _ _ _ c.none-scale.ensures c.requires (sym c.in-OfElements.ensures.sizing) c.in-OfElements.ensures.in_range c.of_elements.ensures.bounded c.of_elements.ensures.scales
