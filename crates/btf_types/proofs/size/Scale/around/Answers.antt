use Rattle.std.proofs.Common.{◌≡◌, ◌<◌, ◌≤◌, ◌*◌, ◌/◌, arith, ◌∙◌, sym, refl}
use Rattle.std.proofs.Math.Nat.{mul-le-mul_left}
use Rattle.btf_types.proofs.Scaling.{product_fits, within, within_back, scaled_product}
use Rattle.btf_types.proofs.size.Scale.around.Goals as goal

pub returns-then-inner-eq0-clause-scales : goal.returns-then-inner-eq0-clause-scales
returns-then-inner-eq0-clause-scales c size total =
    let inner = c.args.inner in
    let outer = c.args.self in
    let nothing : inner.factor * size ≡ 0 = rw c.if-inner-eq0.true (omega arith) in (
      λ h. (0, (h.0, sym nothing), (omega arith, h.1 ∙ nothing ∙ omega arith)),
      λ h. (let none : h.0 ≡ 0 = h.1.1 ∙ nothing in (h.1.0, h.2.1 ∙ rw none (omega (arith, nothing)))),
    )

pub returns-clause-bounded : goal.returns-clause-bounded
returns-clause-bounded c =
    let fits = product_fits c.args.self.factor c.args.self.largest c.args.inner.factor c.saturating_mul.result c.requires.outer.product (omega (arith, c.saturating_mul.ensures)) in
    let less : c.min.result ≤ c.args.self.largest / c.args.inner.factor = omega (arith, c.min.ensures) in
    record {
      product = omega (arith, fits, mul-le-mul_left c.saturating_mul.result less);
      largest = omega (arith, c.min.ensures, c.requires.inner.largest);
    }

pub returns-clause-scales : goal.returns-clause-scales
returns-clause-scales c size total =
    let inner = c.args.inner in
    let outer = c.args.self in
    let some : 0 < inner.factor = omega (arith, c.if-inner-eq0.false) in
    let same : inner.factor * size ≤ outer.largest → c.saturating_mul.result * size ≡ outer.factor * (inner.factor * size) = λ le. rw c.saturating_mul.ensures (scaled_product outer.factor outer.largest inner.factor size some c.requires.outer.product le) in (
      λ h. (let le = within outer.largest inner.factor size some (omega (arith, c.min.ensures, h.0)) in (inner.factor * size, (omega (arith, c.min.ensures, h.0), refl), (le, h.1 ∙ same le))),
      λ h. (let le : inner.factor * size ≤ outer.largest = rw (sym h.1.1) h.2.0 in
          (omega (arith, c.min.ensures, h.1.0, within_back outer.largest inner.factor size some le), h.2.1 ∙ rw h.1.1 (sym (same le)))),
    )
