use Rattle.std.proofs.Common.{◌≡◌, ◌+◌, ◌-◌, ◌*◌, arith}
use Rattle.flat_memory.proofs.Bytes.{part_written}
use Rattle.bpf_machine.specs.State.{empty_frame}
use Rattle.bpf_machine.proofs.Frames.{length-empty_frame}
use Rattle.bpf_machine.proofs.stack.clear_frame.Goals as goal

pub returns : goal.returns
unfolding empty_frame
returns c =
    let e : 4096 * c.args.depth + 512 - 4096 * c.args.depth ≡ 512 = omega arith in
    rw (e, c.copy_from_slice.ensures.after) (part_written c.args.stack.now (4096 * c.args.depth) 512 empty_frame length-empty_frame)
