use Rattle.object_load.proofs.KnownLemmas.{none_known}
use Rattle.object_load.proofs.known_maps.KnownMaps.new.Goals as goal

pub returns : goal.returns
returns c file maps = none_known file maps c.in_ok-numbers.numbers.items c.places_of.result (c.in_ok-numbers.ensures.items_if_clones_equal (λ y e. e))
