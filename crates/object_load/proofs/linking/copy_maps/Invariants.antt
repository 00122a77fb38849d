use Rattle.std.proofs.Common.{◌≡◌, take}
use Rattle.object_load.proofs.linking.copy_maps.Given as goal

abbrev pub invariant-loop-map : goal.invariant-loop-map
invariant-loop-map l = l.copied ≡ take l.map-index l.maps
