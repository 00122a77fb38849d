use Rattle.std.proofs.Common.{◌≡◌, ◌<◌, ◌≤◌, ◌*◌, arith, ◌∙◌, sym}
use Rattle.std.proofs.Math.Nat.{div-le_self}
use Rattle.btf_types.proofs.Scaling.{product_fits, within, within_back, scaled_product}
use Rattle.btf_types.proofs.size.Scale.of_elements.Goals as goal

pub returns-clause-bounded : goal.returns-clause-bounded
returns-clause-bounded c = record {
  product = product_fits c.args.self.factor c.args.self.largest c.args.count c.saturating_mul.result c.requires.product (omega (arith, c.saturating_mul.ensures));
  largest = omega (arith, div-le_self c.args.self.largest c.args.count, c.requires.largest);
}

pub returns-clause-scales : goal.returns-clause-scales
returns-clause-scales c size total small =
    let scale = c.args.self in
    let count = c.args.count in
    let some : 0 < count = omega (arith, c.if-count-eq0.false) in
    let same : count * size ≤ scale.largest → c.saturating_mul.result * size ≡ scale.factor * (count * size) = λ le. rw c.saturating_mul.ensures (scaled_product scale.factor scale.largest count size some c.requires.product le) in (
      λ h. (let le = within scale.largest count size some h.0 in (omega (arith, le, c.requires.largest), (le, h.1 ∙ same le))),
      λ h. (within_back scale.largest count size some h.1.0, h.1.1 ∙ sym (same h.1.0)),
    )
