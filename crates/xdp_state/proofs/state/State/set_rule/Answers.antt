use Rattle.std.proofs.Common.{◌<◌, refl}
use Rattle.xdp_state.specs.State.{attached_from}
use Rattle.xdp_state.proofs.Rules.{added}
use Rattle.xdp_state.proofs.Views.{in_order-more, whole-more}
use Rattle.xdp_state.proofs.state.State.set_rule.Goals as goal

pub invariant_of-self : goal.invariant_of-self
invariant_of-self c =
    let few : c.self.inside.count < 65536 = rw (← c.self.view_is) at c.requires.count in
    whole-more c.self.inside _ c.self.invariant refl refl few

pub returns : goal.returns
returns c =
    let place = rw (← c.self.view_is) at c.requires.place in
    let rows = added c.add.result c.self.inside.rules c.add.new.self _ c.args.key c.add.ensures.rows c.add.ensures.full place in
    rw (← c.self.view_is, rows, in_order-more (attached_from 0 c.self.inside.hooks.items) c.self.inside.count c.self.invariant.numbers) refl
