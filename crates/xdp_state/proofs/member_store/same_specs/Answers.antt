use Rattle.std.proofs.Common.{◌≡◌, true, false, sym, ◌∙◌, arith}
use Rattle.xdp_state.proofs.Stores.{same-differs, same-goes}
use Rattle.xdp_state.proofs.member_store.same_specs.Goals as goal

pub returns-then-not-equals : goal.returns-then-not-equals
returns-then-not-equals c =
    let fails : c.equals.result ≡ false = grind (arith, c.if-not-equals.true) in
    sym (c.loop-place.invariant
    ∙ same-differs c.args.specs.now c.args.maps.now c.loop-place.place c.index-specs-place.result c.index-maps-place.result c.equals.result (omega (arith, c.if-specs-maps.false)) c.loop-place-test.true c.index-specs-place.is c.index-maps-place.is c.equals.ensures fails)

pub loop-place-preserved : goal.loop-place-preserved
loop-place-preserved c =
    let goes : c.equals.result ≡ true = grind (arith, c.if-not-equals.false) in
    c.loop-place.invariant
    ∙ same-goes c.args.specs.now c.args.maps.now c.loop-place.place c.index-specs-place.result c.index-maps-place.result c.equals.result (omega (arith, c.if-specs-maps.false)) c.loop-place-test.true c.index-specs-place.is c.index-maps-place.is c.equals.ensures goes
