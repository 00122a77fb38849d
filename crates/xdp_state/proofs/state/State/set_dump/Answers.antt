use Rattle.std.proofs.Common.{◌<◌, refl}
use Rattle.xdp_state.specs.State.{attached_from}
use Rattle.xdp_state.proofs.Views.{in_order-more, whole-more}
use Rattle.xdp_state.proofs.state.State.set_dump.Goals as goal

pub invariant_of-self : goal.invariant_of-self
invariant_of-self c =
    let few : c.self.inside.count < 65536 = rw (← c.self.view_is) at c.requires.count in
    whole-more c.self.inside _ c.self.invariant refl refl few

pub returns : goal.returns
returns c =
    rw (← c.self.view_is, in_order-more (attached_from 0 c.self.inside.hooks.items) c.self.inside.count c.self.invariant.numbers) refl
