use Rattle.std.proofs.Common.{true, refl, ap, slice_set}
use Rattle.xdp_state.proofs.Attaching.{Detach, chain-all, first_hook, hook_at, leave-all, view-all, whole-detach}
use Rattle.xdp_state.proofs.state.State.detach_all.Goals as goal
use Rattle.xdp_state.proofs.state.State.detach_all.Goals.{After-self-2-1}

leaving : (c : After-self-2-1) → Detach c.self.inside c.args.interface (λ m. true) c.index_mut.result.now first_hook
leaving c =
    let hook = c.index_mut.result.now in
    let here = hook_at c.self.inside c.args.interface hook c.self.invariant c.requires.known c.index_mut.ensures.value in
    record {
      leave = leave-all c.self.inside c.args.interface hook c.self.invariant here;
      few = rw (← c.self.view_is) at c.requires.count;
      chain = λ members is. chain-all members hook.chain is;
    }

pub invariant_of-self : goal.invariant_of-self
invariant_of-self c = whole-detach c.self.inside _ c.args.interface (λ m. true) c.index_mut.result.now first_hook (leaving c) (ap (slice_set c.self.inside.hooks.items c.args.interface) c.new.ensures) refl

pub returns : goal.returns
returns c = rw (← c.self.view_is) (view-all c.self.inside c.args.interface c.index_mut.result.now _ (leaving c) (ap (slice_set c.self.inside.hooks.items c.args.interface) c.new.ensures))
