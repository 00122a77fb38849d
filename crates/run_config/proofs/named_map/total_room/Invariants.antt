use Rattle.std.proofs.Common.{◌≡◌, take}
use Rattle.run_config.specs.MapRules.{total_room}
use Rattle.run_config.specs.Maps.{specs_of}
use Rattle.run_config.proofs.named_map.total_room.Given as goal

-- the room of the maps so far
abbrev pub invariant-loop-one : goal.invariant-loop-one
invariant-loop-one l = l.room ≡ total_room (specs_of (take l.one-index l.maps))
