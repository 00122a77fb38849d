use Rattle.std.proofs.Common.{◌≡◌, drop}
use Rattle.run_config.specs.Maps.{specs_of}
use Rattle.xdp_state.specs.Stores.{same_specs}
use Rattle.xdp_state.proofs.member_store.same_specs.Given as goal

abbrev pub invariant-loop-place : goal.invariant-loop-place
invariant-loop-place l = same_specs l.specs (specs_of l.maps) ≡ same_specs (drop l.place l.specs) (specs_of (drop l.place l.maps))
