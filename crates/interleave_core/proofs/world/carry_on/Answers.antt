use Rattle.std.proofs.Common.{◌<◌, length, ◌∙◌, arith}
use Rattle.interleave_core.proofs.Lanes.{changed-on_ok, waits_at-get}
use Rattle.interleave_core.specs.Traffic.{with_count}
use Rattle.interleave_core.proofs.world.carry_on.Goals as goal

pub carry-requires : goal.carry-requires
carry-requires c =
    let below : c.args.processor < length c.args.lanes.now.items = omega (arith, c.requires.place, c.args.lanes.now.ok) in
    waits_at-get c.args.processor c.args.lanes.now.items c.index_mut.result.now below c.index_mut.ensures.value ∙ c.requires.waits

pub returns-clause-ok : goal.returns-clause-ok
returns-clause-ok c =
    let below : c.args.processor < length c.args.lanes.now.items = omega (arith, c.requires.place, c.args.lanes.now.ok) in
    changed-on_ok c.carry.result c.args.processor (with_count c.args.count) c.args.lanes.now.items c.index_mut.result.now c.carry.new.self below c.index_mut.ensures.value c.carry.ensures.ok
