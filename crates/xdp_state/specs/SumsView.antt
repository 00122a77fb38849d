use Rattle.xdp_state.specs.RunSums.{RunSums}
use Rattle.xdp_state.specs.declared.sums.Sums.TheInside.{Inside}

abbrev pub view_of : Inside → RunSums
view_of sums = record { by_processor = sums.by_processor.items; before = sums.before; latest = sums.latest }
