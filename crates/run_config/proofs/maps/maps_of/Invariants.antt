use Rattle.std.proofs.Common.{take}
use Rattle.run_config.specs.Maps.{AreMaps}
use Rattle.run_config.specs.Variables.{parts_of}
use Rattle.run_config.proofs.MapsFront.{among}
use Rattle.run_config.proofs.maps.maps_of.Given as goal

-- the maps of the entries so far
abbrev pub invariant-loop-place : goal.invariant-loop-place
invariant-loop-place l = AreMaps l.types (among l.types (take l.place (parts_of l.types l.section))) l.maps
