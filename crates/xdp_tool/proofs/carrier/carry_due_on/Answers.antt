use Rattle.std.proofs.Common.{◌≡◌, get_or, arith, sym, ◌∙◌}
use Rattle.xdp_tool.proofs.Due.{up_to-next}
use Rattle.xdp_tool.proofs.carrier.carry_due_on.Goals as goal

pub returns-else-counts-place : goal.returns-else-counts-place
returns-else-counts-place c = λ published standing state up.
    up_to-next c.args.library.now published standing c.args.hand_ins.now c.args.counts.now c.args.state.now.count c.loop-place.processor
    (λ below under same.
    let there : get_or c.args.counts.now c.loop-place.place 0 ≡ c.count.result = rw c.loop-place.invariant.place (same ∙ sym c.count.ensures) in
    absurd (omega (arith, c.if-counts-place.false, there)))
    (c.loop-place.invariant.up published standing state up)

pub returns-else-place-counts : goal.returns-else-place-counts
returns-else-place-counts c = λ published standing state up.
    up_to-next c.args.library.now published standing c.args.hand_ins.now c.args.counts.now c.args.state.now.count c.loop-place.processor
    (λ below under same. absurd (omega (arith, c.loop-place.invariant.place)))
    (c.loop-place.invariant.up published standing state up)

pub returns-after-loop-place : goal.returns-after-loop-place
returns-after-loop-place c = λ published standing state up.
    up_to-next c.args.library.now published standing c.args.hand_ins.now c.args.counts.now c.args.state.now.count c.loop-place.processor
    (λ below under same. absurd (omega (arith, c.loop-place.invariant.place)))
    (c.loop-place.invariant.up published standing state up)
