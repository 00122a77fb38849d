use Rattle.std.proofs.Common.{◌≡◌, min, length, arith}
use Rattle.interleave_core.proofs.Places.{found-at, lacking_from-at, last-lacking_from, next-at}
use Rattle.interleave_core.specs.Legality.{lacking_from}
use Rattle.interleave_core.proofs.legality.lacking.Goals as goal

pub returns-in-Some : goal.returns-in-Some
returns-in-Some c =
    found-at _ _ _ _ _ c.loop-phase.invariant
    (lacking_from-at c.loop-phase.phase c.args.plan.now c.args.choices.now c.at-asked.result.now c.at-counts.result.now c.at-asked.ensures c.at-counts.ensures)
    c.in-Some.ensures

pub loop-phase-preserved : goal.loop-phase-preserved
loop-phase-preserved c =
    next-at _ _ _ _ c.lacking_in.result c.loop-phase.invariant
    (lacking_from-at c.loop-phase.phase c.args.plan.now c.args.choices.now c.at-asked.result.now c.at-counts.result.now c.at-asked.ensures c.at-counts.ensures)
    c.in_default.not-Some c.lacking_in.ensures

pub returns : goal.returns
returns c =
    let least : c.min-phases.result ≡ min (length c.args.plan.now) (length c.args.choices.now) = omega (arith, c.min-phases.ensures, c.len.ensures, c.len-2.ensures) in
    let all : c.loop-phase.phase ≡ c.min-phases.result = omega (arith, c.loop-phase-test.false, c.loop-phase.auto.phase-end) in
    last-lacking_from c.loop-phase.phase c.min-phases.result c.len-3.result c.len-4.result c.args.plan.now c.args.choices.now (lacking_from 0 c.args.plan.now c.args.choices.now) c.lacking_at.result
    c.len-3.ensures c.len-4.ensures least all c.loop-phase.invariant c.lacking_at.ensures
