use Rattle.std.proofs.Common.{sym, arith}
use Rattle.run_config.proofs.MapBreaks.{no_room, room-small, room-step, spec_kept}
use Rattle.run_config.proofs.named_map.total_room.Goals as goal

pub loop-one-init : goal.loop-one-init
loop-one-init c = sym no_room

pub room_of-room-requires : goal.room_of-room-requires
room_of-room-requires c = spec_kept c.args.maps.now c.loop-one.one-index c.one-item.result c.one-item.is (omega arith) c.requires

pub overflow_add-room : goal.overflow_add-room
overflow_add-room c =
    let small = room-small c.args.maps.now c.loop-one.one-index c.requires in
    omega (arith, small, c.loop-one.invariant, c.room_of-room.ensures.small)

pub loop-one-preserved : goal.loop-one-preserved
loop-one-preserved c =
    room-step c.args.maps.now c.loop-one.one-index c.loop-one.room c.room_of-room.result c.one-item.result c.one-item.is (omega arith) c.loop-one.invariant c.room_of-room.ensures.value

pub returns-clause-small : goal.returns-clause-small
returns-clause-small c =
    let small = room-small c.args.maps.now c.loop-one.one-index c.requires in
    omega (arith, small, c.loop-one.invariant)
