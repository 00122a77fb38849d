use Rattle.std.proofs.Common.{refl}
use Rattle.xdp_state.proofs.Attaching.{view-new, whole-new}
use Rattle.xdp_state.proofs.state.State.new.Goals as goal

pub invariant_of-result : goal.invariant_of-result
invariant_of-result c = whole-new _ c.in_ok-no_hooks.ensures refl

pub returns : goal.returns
returns c = view-new _ _ _ c.in_ok-no_hooks.ensures c.in_ok-new.ensures refl
