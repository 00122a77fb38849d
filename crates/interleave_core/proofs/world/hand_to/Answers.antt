use Rattle.std.proofs.Common.{◌<◌, length, arith}
use Rattle.interleave_core.proofs.Lanes.{changed-on_ok}
use Rattle.interleave_core.specs.Traffic.{with_packet}
use Rattle.interleave_core.proofs.world.hand_to.Goals as goal

pub returns-clause-ok : goal.returns-clause-ok
returns-clause-ok c =
    let below : c.args.processor < length c.args.lanes.now.items = omega (arith, c.requires, c.args.lanes.now.ok) in
    changed-on_ok c.hand_in.result c.args.processor (with_packet c.args.hand_in) c.args.lanes.now.items c.index_mut.result.now c.hand_in.new.self below c.index_mut.ensures.value c.hand_in.ensures.ok
