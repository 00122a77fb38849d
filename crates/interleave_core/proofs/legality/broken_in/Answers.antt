use Rattle.std.proofs.Common.{◌≤◌, min, length, take, drop, sym, ◌∙◌, arith}
use Rattle.interleave_core.proofs.Places.{found-at, illegal_in-at, illegal_in-end, next-at}
use Rattle.interleave_core.specs.Sound.{last_counts}
use Rattle.interleave_core.proofs.legality.broken_in.Goals as goal

pub returns-in-Some : goal.returns-in-Some
returns-in-Some c =
    found-at _ _ _ _ _ c.loop-processor.invariant
    (illegal_in-at c.args.phase c.loop-processor.processor c.args.asked.now.published (last_counts (take c.args.phase c.args.choices.now)) c.args.asked.now.needs c.args.counts.now c.at-asked_on.result.now c.at-counted.result.now c.at-asked_on.ensures c.at-counted.ensures)
    c.in-Some.ensures

pub loop-processor-preserved : goal.loop-processor-preserved
loop-processor-preserved c =
    next-at _ _ _ _ c.broken_on.result c.loop-processor.invariant
    (illegal_in-at c.args.phase c.loop-processor.processor c.args.asked.now.published (last_counts (take c.args.phase c.args.choices.now)) c.args.asked.now.needs c.args.counts.now c.at-asked_on.result.now c.at-counted.result.now c.at-asked_on.ensures c.at-counted.ensures)
    c.in_default.not-Some c.broken_on.ensures

pub returns : goal.returns
returns c =
    let past : min (length c.args.asked.now.needs) (length c.args.counts.now) ≤ c.loop-processor.processor = omega (arith, c.min-processor-end.ensures, c.len.ensures, c.len-2.ensures, c.loop-processor-test.false) in
    sym (c.loop-processor.invariant ∙ illegal_in-end c.args.phase c.loop-processor.processor c.args.asked.now.published (drop c.loop-processor.processor (last_counts (take c.args.phase c.args.choices.now))) c.args.asked.now.needs c.args.counts.now past)
