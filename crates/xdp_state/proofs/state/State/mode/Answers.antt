use Rattle.std.proofs.Common.{◌∙◌, sym}
use Rattle.std.proofs.lemmas.Option.{slice_get_read}
use Rattle.xdp_state.proofs.Attaching.{then_mode}
use Rattle.xdp_state.proofs.Views.{mode_on-view}
use Rattle.xdp_state.proofs.state.State.mode.Goals as goal

pub returns : goal.returns
returns c =
    let s = c.self.inside in
    let hook = c.index-hook.result.now in
    let here = slice_get_read s.hooks.items 8 c.args.interface hook (sym c.self.invariant.hooks) c.requires c.index-hook.ensures in
    rw (← c.self.view_is, c.then_some.ensures, c.len.ensures.value) (then_mode hook.chain hook.mode ∙ sym (mode_on-view s c.args.interface hook c.self.invariant here))
