use Rattle.std.proofs.Common.{◌≡◌, min, length, arith}
use Rattle.interleave_core.proofs.Places.{found-at, lacking_in-at, last-lacking_in, next-at}
use Rattle.interleave_core.specs.Legality.{lacking_in}
use Rattle.interleave_core.proofs.legality.lacking_in.Goals as goal

pub returns-in-Some : goal.returns-in-Some
returns-in-Some c =
    found-at _ _ _ _ _ c.loop-processor.invariant
    (lacking_in-at c.args.phase c.loop-processor.processor c.args.needs.now c.args.counts.now c.at-asked.result.now c.at-counted.result.now c.at-asked.ensures c.at-counted.ensures)
    c.in-Some.ensures

pub loop-processor-preserved : goal.loop-processor-preserved
loop-processor-preserved c =
    next-at _ _ _ _ c.lacking_packet.result c.loop-processor.invariant
    (lacking_in-at c.args.phase c.loop-processor.processor c.args.needs.now c.args.counts.now c.at-asked.result.now c.at-counted.result.now c.at-asked.ensures c.at-counted.ensures)
    c.in_default.not-Some c.lacking_packet.ensures

pub returns : goal.returns
returns c =
    let least : c.min-processors.result ≡ min (length c.args.needs.now) (length c.args.counts.now) = omega (arith, c.min-processors.ensures, c.len.ensures, c.len-2.ensures) in
    let all : c.loop-processor.processor ≡ c.min-processors.result = omega (arith, c.loop-processor-test.false, c.loop-processor.auto.processor-end) in
    last-lacking_in c.args.phase c.loop-processor.processor c.min-processors.result c.len-3.result c.len-4.result c.args.needs.now c.args.counts.now (lacking_in c.args.phase 0 c.args.needs.now c.args.counts.now) c.lacking_at.result
    c.len-3.ensures c.len-4.ensures least all c.loop-processor.invariant c.lacking_at.ensures
