use Rattle.std.proofs.Common.{◌≡◌, map, take}
use Rattle.map_store.specs.Initial.{first_map}
use Rattle.map_store.proofs.store.Store.new.Given as goal

abbrev pub invariant-loop-spec : goal.invariant-loop-spec
invariant-loop-spec l = l.maps.items ≡ map first_map (take l.spec-index l.specs)
