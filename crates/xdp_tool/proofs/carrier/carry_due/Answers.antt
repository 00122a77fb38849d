use Rattle.std.proofs.Common.{◌≤◌, length, arith}
use Rattle.xdp_tool.proofs.Due.{all-done}
use Rattle.xdp_tool.proofs.carrier.carry_due.Goals as goal

pub returns : goal.returns
returns c = λ published standings state up.
    let all : length c.loop-place.processors.items ≤ c.loop-place.place =
    omega (arith, c.loop-place-test.false, c.len-place-end.ensures, c.loop-place.invariant.processors, c.loop-place.processors.ok, c.args.processors.now.ok) in
    all-done c.args.library.now c.loop-place.place published c.args.state.now.count standings c.args.hand_ins.now c.args.counts.now c.loop-place.processors.items all
    (c.loop-place.invariant.up published standings state up)
