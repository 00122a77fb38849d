use Rattle.std.proofs.Common.{length, ap, sym, subst, arith}
use Rattle.map_store.specs.Initial.{HasInitial}
use Rattle.run_config.specs.declared.named_map.NamedMap.{NamedMap}
use Rattle.object_load.specs.declared.refusal.LoadRefusal.TheVariants.{BadMap}
use Rattle.object_load.proofs.ConstantMaps.{constants-initial, large-broken}
use Rattle.object_load.proofs.maps.push_constants.Goals as goal

pub returns-then-content-gt-MOST_BYTES-clause-bad : goal.returns-then-content-gt-MOST_BYTES-clause-bad
returns-then-content-gt-MOST_BYTES-clause-bad c =
    let long = ap length c.content.ensures in
    (7, large-broken c.args.object.now c.args.maps.now c.args.number (omega arith), ap (λ k. BadMap k 7) c.len-index.ensures)

pub add_map-requires-clause-initial : goal.add_map-requires-clause-initial
add_map-requires-clause-initial c =
    subst (λ (map : NamedMap). HasInitial map.spec) (sym c.in_ok-map.ensures) (constants-initial c.args.object.now c.args.number)
