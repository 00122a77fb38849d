use Rattle.std.proofs.Common.{ap, ◌∙◌, arith}
use Rattle.interleave_core.proofs.Pushing.{rows-next}
use Rattle.interleave_core.specs.Schedule.{rows}
use Rattle.interleave_core.proofs.scheduling.slices_of.Goals as goal

pub loop-place-preserved : goal.loop-place-preserved
loop-place-preserved c =
    record {
      slices = ap rows c.in_ok-push.ensures.items
          ∙ rows-next c.loop-place.slices.items c.as_slice.result c.loop-place.place c.args.table.now c.at.result.now c.loop-place.invariant.slices c.at.ensures c.as_slice.ensures;
      many = omega (arith, c.in_ok-push.ensures.len, c.loop-place.invariant.many);
    }
