use Rattle.std.proofs.Common.{◌≤◌, min, length, sym, ◌∙◌, arith}
use Rattle.interleave_core.proofs.Places.{illegal_on-end}
use Rattle.interleave_core.proofs.legality.broken_after.Goals as goal

pub returns : goal.returns
returns c =
    let past : min (length c.args.needs.now) (length c.args.counts.now) ≤ c.loop-place.place = omega (arith, c.min-place-end.ensures, c.loop-place-test.false) in
    sym (c.loop-place.invariant ∙ illegal_on-end c.args.phase c.args.processor c.loop-place.place c.loop-place.last c.args.published c.args.needs.now c.args.counts.now past)
