use Rattle.std.proofs.Common.{arith}
use Rattle.interleave_core.proofs.Pushing.{steps_after-next}
use Rattle.interleave_core.specs.Schedule.{rows}
use Rattle.interleave_core.proofs.scheduling.add_phase.Goals as goal

pub loop-published-preserved : goal.loop-published-preserved
loop-published-preserved c =
    record {
      steps = steps_after-next c.loop-published.published c.args.asked.now.published (rows c.loop-published.needs.items) (rows c.loop-published.counts.items) (rows c.add_next.new.needs.items) (rows c.add_next.new.counts.items) c.loop-published.steps c.add_next.new.steps _
          c.loop-published-test.true c.loop-published.invariant.steps c.in_ok-add_next.ensures.steps c.in_ok-add_next.ensures.needs c.in_ok-add_next.ensures.counts;
      needs = omega (arith, c.add_next.ensures.same_needs, c.loop-published.invariant.needs);
      counts = omega (arith, c.add_next.ensures.same_counts, c.loop-published.invariant.counts);
    }
