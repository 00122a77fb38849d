use Rattle.std.proofs.Common.{◌+◌, ◌-◌, ◌<◌, ◌≤◌, arith}
use Rattle.map_store.specs.Buckets.{after}
use Rattle.map_store.proofs.chains.Chains.last_before.Goals as goal

pub loop-slot-smaller : goal.loop-slot-smaller
loop-slot-smaller c =
    let from : after c.loop-slot.before ≤ c.in-Some.slot = (c.next.ensures.found c.in-Some.slot c.in-Some.is).0 in
    let below : c.in-Some.slot < c.args.place = c.if-slot-place.false in
    let less : c.args.place - (c.in-Some.slot + 1) < c.args.place - after c.loop-slot.before = omega arith in
    less
