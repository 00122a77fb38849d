use Rattle.xdp_state.proofs.Counts.{count_after}
use Rattle.dispatch_plane.specs.History.{shown}
use Rattle.dispatch_plane.proofs.port.Port.count.Goals as goal

pub returns : goal.returns
returns c =
    let long = count_after (shown c.self.inside.lens.seen.log) c.state.ensures.taken in
    cc
