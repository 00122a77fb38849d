use Rattle.std.proofs.Common.{◌≤◌, min, length, take, sym, ◌∙◌, arith}
use Rattle.interleave_core.proofs.Places.{found-at, illegal_from-at, illegal_from-end, next-at}
use Rattle.interleave_core.specs.Sound.{last_counts}
use Rattle.interleave_core.proofs.legality.first_broken.Goals as goal

pub returns-in-Some : goal.returns-in-Some
returns-in-Some c =
    found-at _ _ _ _ _ c.loop-phase.invariant
    (illegal_from-at c.loop-phase.phase c.args.plan.now c.args.choices.now c.at-asked.result.now c.at-counts.result.now c.at-asked.ensures c.at-counts.ensures)
    c.in-Some.ensures

pub loop-phase-preserved : goal.loop-phase-preserved
loop-phase-preserved c =
    next-at _ _ _ _ c.broken_in.result c.loop-phase.invariant
    (illegal_from-at c.loop-phase.phase c.args.plan.now c.args.choices.now c.at-asked.result.now c.at-counts.result.now c.at-asked.ensures c.at-counts.ensures)
    c.in_default.not-Some c.broken_in.ensures

pub returns : goal.returns
returns c =
    let past : min (length c.args.plan.now) (length c.args.choices.now) ≤ c.loop-phase.phase = omega (arith, c.min-phase-end.ensures, c.len.ensures, c.len-2.ensures, c.loop-phase-test.false) in
    sym (c.loop-phase.invariant ∙ illegal_from-end c.loop-phase.phase (last_counts (take c.loop-phase.phase c.args.choices.now)) c.args.plan.now c.args.choices.now past)
