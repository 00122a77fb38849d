use Rattle.xdp_state.proofs.Tallies.{tally-none}
use Rattle.xdp_state.proofs.tally.Tally.new.Goals as goal

pub returns : goal.returns
returns c = tally-none c.new.result c.new.ensures
