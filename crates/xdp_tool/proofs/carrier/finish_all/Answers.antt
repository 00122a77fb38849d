use Rattle.std.proofs.Common.{refl, add-one, arith, length, ◌<◌}
use Rattle.xdp_tool.proofs.Due.{finish-step, idle-done, idle-start, idle-step}
use Rattle.xdp_tool.proofs.carrier.finish_all.Goals as goal

pub loop-place-init : goal.loop-place-init
loop-place-init c = record {
  carried = rw c.new-carried.ensures refl;
  idle = λ standings stands. idle-start c.args.processors.now.items standings stands;
  processors = refl;
}

pub loop-place-preserved : goal.loop-place-preserved
loop-place-preserved c =
    let inv = c.loop-place.invariant in
    let ps = c.loop-place.processors.items in
    let k = c.loop-place.place in
    let below : k < length ps = omega (arith, c.loop-place-test.true, c.len-place-end.ensures, inv.processors, c.loop-place.processors.ok, c.args.processors.now.ok) in
    record {
      carried = finish-step ps k c.index_mut.result.now c.finish.new.self _ _ _ c.finish.result below c.index_mut.ensures.value c.finish.ensures.carried c.in_ok-push.ensures.ok inv.carried;
      idle = λ standings stands. rw add-one (idle-step k ps standings c.index_mut.result.now c.finish.new.self below c.index_mut.ensures.value c.finish.ensures.idle c.finish.ensures.standing (inv.idle standings stands));
      processors = inv.processors;
    }

pub returns-clause-idle : goal.returns-clause-idle
returns-clause-idle c = λ standings stands.
    idle-done c.loop-place.place c.loop-place.processors.items standings
    (omega (arith, c.loop-place-test.false, c.len-place-end.ensures, c.loop-place.invariant.processors, c.loop-place.processors.ok, c.args.processors.now.ok)) (c.loop-place.invariant.idle standings stands)
