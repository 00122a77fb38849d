use Rattle.std.proofs.Common.{◌≡◌, ◌++◌, drop, map, take}
use Rattle.map_store.specs.Initial.{AreMakeable}
use Rattle.run_config.specs.MapRules.{first_break}
use Rattle.run_config.specs.Maps.{specs_of}
use Rattle.object_load.specs.Maps.{constant_map}
use Rattle.object_load.proofs.maps.with_constants.Given as goal

-- the maps so far, and what is left decides
abbrev pub invariant-loop-number : goal.invariant-loop-number
invariant-loop-number l = record {
  maps : l.maps ≡ l.initial.maps ++ map (constant_map l.object) (take l.number-index l.numbers);
  left : first_break (specs_of l.initial.maps) (specs_of (map (constant_map l.object) l.numbers))
      ≡ first_break (specs_of l.maps) (specs_of (map (constant_map l.object) (drop l.number-index l.numbers)));
  makeable : AreMakeable (specs_of l.maps);
}
