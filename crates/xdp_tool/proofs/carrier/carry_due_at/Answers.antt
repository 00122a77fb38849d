use Rattle.std.proofs.Common.{◌<◌, ap, length, add-one, arith}
use Rattle.xdp_tool.proofs.Due.{all-lengths, all-step, on_ok-all}
use Rattle.xdp_tool.proofs.carrier.carry_due_at.Goals as goal
use Rattle.xdp_tool.proofs.carrier.carry_due_at.Goals.{then-place-hand_ins-via-then-place-hand_ins, then-place-hand_ins-via-else-place-hand_ins+then-place-counts}

pub returns-then-place-hand_ins-clause-due : goal.returns-then-place-hand_ins-clause-due
returns-then-place-hand_ins-clause-due c = λ published standings state up.
    let lengths = all-lengths c.args.library.now c.args.place published c.args.state.now.count standings c.args.hand_ins.now c.args.counts.now c.args.processors.now.items up in
    let counts = ap length c.as_slice-counts.ensures in
    absurd (elim c.then-place-hand_ins.branch [
      | then-place-hand_ins-via-then-place-hand_ins w ↦ omega (arith, c.requires.place, lengths.hand_ins, w.if-place-hand_ins.true, c.args.processors.now.ok)
      | then-place-hand_ins-via-else-place-hand_ins+then-place-counts w ↦ omega (arith, c.requires.place, lengths.counts, w.if-place-counts.true, counts, c.args.processors.now.ok)
    ])

pub returns-clause-due : goal.returns-clause-due
returns-clause-due c = λ published standings state up.
    let h = rw (c.as_slice-hand_ins.ensures, c.as_slice-counts-2.ensures) at (c.carry_due_on.ensures published) in
    let below : c.args.place < length c.args.processors.now.items = omega (arith, c.requires.place, c.args.processors.now.ok) in
    on_ok-all c.carry_due_on.result (λ standing one. h standing state one)
    (λ goes. rw add-one (all-step c.args.library.now c.args.place published c.args.state.now.count standings c.args.hand_ins.now c.args.counts.now c.args.processors.now.items
    c.index-hand_ins-place.result c.index-counts-place.result c.index_mut.result.now c.carry_due_on.new.processor below c.index_mut.ensures.value c.index-hand_ins-place.is
    (rw c.as_slice-counts.ensures at c.index-counts-place.is) goes up))
