use Rattle.std.proofs.Common.{◌≡◌, take}
use Rattle.run_config.specs.Maps.{specs_of}
use Rattle.xdp_state.proofs.member_store.copy_specs.Given as goal

abbrev pub invariant-loop-map : goal.invariant-loop-map
invariant-loop-map l = l.specs ≡ specs_of (take l.map-index l.maps)
