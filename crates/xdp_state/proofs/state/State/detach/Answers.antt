use Rattle.std.proofs.Common.{refl}
use Rattle.std.specs.Prelude.{◌==◌}
use Rattle.xdp_state.specs.declared.hook.Hook.{Hook}
use Rattle.xdp_state.proofs.Attaching.{Detach, hook_at, leave-number, view-detach, whole-detach}
use Rattle.xdp_state.proofs.state.State.detach.Goals as goal
use Rattle.xdp_state.proofs.state.State.detach.Goals.{After-self-2-1, then-clear_rules, else-clear_rules}

abbrev left : After-self-2-1 → Hook
left c = record c.index_mut.result.now { chain = c.take_off.new.chain }

leaving : (c : After-self-2-1) → Detach c.self.inside c.args.interface (λ m. m.number == c.args.number) c.index_mut.result.now (left c)
leaving c =
    let hook = c.index_mut.result.now in
    let here = hook_at c.self.inside c.args.interface hook c.self.invariant c.requires.known c.index_mut.ensures.value in
    record {
      leave = leave-number c.self.inside c.args.interface c.args.number hook c.take_off.new.chain c.self.invariant here c.take_off.ensures.members;
      few = rw (← c.self.view_is) at c.requires.count;
      chain = c.take_off.ensures.chain;
    }

pub invariant_of-self : goal.invariant_of-self
invariant_of-self c =
    elim c.if-clear_rules.branch [
      | then-clear_rules w ↦ rw w.self-inside-is (whole-detach c.self.inside _ c.args.interface _ c.index_mut.result.now (left c) (leaving c) refl refl)
      | else-clear_rules w ↦ rw w.self-inside-is (whole-detach c.self.inside _ c.args.interface _ c.index_mut.result.now (left c) (leaving c) refl refl)
    ]

pub returns : goal.returns
returns c =
    elim c.if-clear_rules.branch [
      | then-clear_rules w ↦ rw (w.self-inside-is, ← c.self.view_is, w.if-clear_rules.true) (view-detach c.self.inside c.args.interface _ c.index_mut.result.now (left c) _ _ _ (leaving c) refl w.clear.ensures)
      | else-clear_rules w ↦ rw (w.self-inside-is, ← c.self.view_is, w.if-clear_rules.false) (view-detach c.self.inside c.args.interface _ c.index_mut.result.now (left c) _ _ _ (leaving c) refl refl)
    ]
