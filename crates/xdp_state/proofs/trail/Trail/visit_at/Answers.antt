use Rattle.std.proofs.Common.{length, refl}
use Rattle.std.proofs.lemmas.Option.{slice_get_read}
use Rattle.xdp_state.proofs.Ways.{visit-at}
use Rattle.xdp_state.proofs.trail.Trail.visit_at.Goals as goal

pub returns : goal.returns
returns c =
    let trail = c.args.self.now in
    let here = slice_get_read trail.seen.items (length trail.seen.items) c.args.place c.index-seen.result.now refl c.requires.place c.index-seen.ensures in
    visit-at trail.seen.items trail.entries trail.exits c.args.place c.index-seen.result.now c.in_ok-entry.entry c.in_ok-exit.exit here c.in_ok-entry.ensures c.in_ok-exit.ensures
