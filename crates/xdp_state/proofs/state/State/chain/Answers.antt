use Rattle.std.proofs.Common.{sym}
use Rattle.std.proofs.lemmas.Option.{slice_get_read}
use Rattle.xdp_state.proofs.Views.{chain_on-view}
use Rattle.xdp_state.proofs.state.State.chain.Goals as goal

pub returns : goal.returns
returns c =
    let s = c.self.inside in
    let here = slice_get_read s.hooks.items 8 c.args.interface c.index.result.now (sym c.self.invariant.hooks) c.requires c.index.ensures in
    rw (← c.self.view_is) (chain_on-view s c.args.interface c.index.result.now c.self.invariant here)
