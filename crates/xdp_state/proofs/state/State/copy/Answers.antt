use Rattle.std.proofs.Common.{◌∙◌, refl}
use Rattle.xdp_state.proofs.Attaching.{whole-same}
use Rattle.xdp_state.proofs.state.State.copy.Goals as goal

pub invariant_of-result : goal.invariant_of-result
invariant_of-result c = whole-same c.self.inside _ c.self.invariant (c.in_ok-copy_all.ensures ∙ c.deref.ensures.value) refl
