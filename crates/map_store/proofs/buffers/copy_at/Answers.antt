use Rattle.std.proofs.Common.{◌≡◌, ◌+◌, ◌-◌, length, refl, arith}
use Rattle.flat_memory.proofs.Bytes.{part_written}
use Rattle.map_store.proofs.buffers.copy_at.Goals as goal

pub returns : goal.returns
returns c =
    let size : c.args.start + length c.args.part.now - c.args.start ≡ length c.args.part.now = omega arith in
    rw (size, c.copy_from_slice.ensures.after) (part_written c.args.bytes.now c.args.start (length c.args.part.now) c.args.part.now refl)
