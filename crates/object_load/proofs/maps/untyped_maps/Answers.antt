use Rattle.std.proofs.Common.{sym, ◌∙◌}
use Rattle.object_load.specs.Maps.{nothing, untyped}
use Rattle.object_load.proofs.maps.untyped_maps.Goals as goal

pub returns-then-has_maps-clause-maps : goal.returns-then-has_maps-clause-maps
returns-then-has_maps-clause-maps c = untyped (sym c.has_maps.ensures ∙ c.if-has_maps.true)

pub returns-clause-maps : goal.returns-clause-maps
returns-clause-maps c = rw c.new.ensures (nothing (sym c.has_maps.ensures ∙ c.if-has_maps.false))
