use Rattle.xdp_state.proofs.Stores.{entered, entered_none}
use Rattle.xdp_state.proofs.machine.entering.Goals as goal
use Rattle.xdp_state.proofs.machine.entering.Goals.{in-Some+in_ok-push, in_default}

pub loop-place-preserved : goal.loop-place-preserved
loop-place-preserved c =
    elim c.match-branch-2.branch [
      | in-Some+in_ok-push w ↦
          rw (w.made-is, w.in_ok-push.ensures.items)
          (entered c.args.library.now c.args.chain.now c.args.stores.now c.loop-place.place c.at.result.now c.in_ok-store.field-0 w.in-Some.store c.loop-place.made.items c.at.ensures.member c.in_ok-store.ensures c.loop-place.invariant w.in-Some.is)
      | in_default w ↦
          rw w.made-is
          (entered_none c.args.library.now c.args.chain.now c.args.stores.now c.loop-place.place c.at.result.now c.in_ok-store.field-0 c.loop-place.made.items c.at.ensures.member c.in_ok-store.ensures c.loop-place.invariant w.in_default.is)
    ]
