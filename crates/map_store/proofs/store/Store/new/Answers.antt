use Rattle.std.proofs.Common.{◌≡◌, take, length, ap, ◌∙◌, arith, length-take}
use Rattle.std.proofs.lemmas.List.{length-map}
use Rattle.map_store.specs.Initial.{first_map}
use Rattle.map_store.proofs.store.Store.new.Goals as goal

pub invariant_of-result : goal.invariant_of-result
invariant_of-result c =
    let long : length c.loop-spec.maps.items ≡ length (take c.loop-spec.spec-index c.args.specs.now) = ap length c.loop-spec.invariant ∙ length-map (take c.loop-spec.spec-index c.args.specs.now) first_map in
    omega (arith, length-take c.loop-spec.spec-index c.args.specs.now)
