use Rattle.std.proofs.Common.{◌≡◌, ℕ, ◌+◌, ◌≤◌, ◌∙◌, List, length, arith, ap, sym, refl}
use Rattle.std.specs.Vec.{with_items}
use Rattle.std.proofs.lemmas.List.{with_items_is}
use Rattle.flat_memory.specs.Numbers.{with_bytes}
use Rattle.flat_memory.proofs.Bytes.{length-with_bytes}
use Rattle.bpf_machine.specs.State.{empty_frame, start_registers}
use Rattle.bpf_machine.proofs.Frames.{length-empty_frame}
use Rattle.bpf_machine.proofs.States.{parts_same, restarted}
use Rattle.bpf_machine.proofs.running.restart.Goals as goal

pub returns : goal.returns
unfolding start_registers
returns c = λ maps packet.
    let stack : List ℕ = c.args.scratch.now.stack.items in
    let room : length stack ≡ 0x7200 = sym c.args.scratch.now.stack.ok.0 ∙ c.args.scratch.now.room in
    let cleared : c.clear_frame.new.stack ≡ with_bytes stack 0 empty_frame = rw c.deref_mut.ensures.value at c.clear_frame.ensures in
    let size : length empty_frame ≡ 512 = length-empty_frame in
    let fits : 0 + length empty_frame ≤ length stack = omega arith in
    let long : length c.clear_frame.new.stack ≡ c.args.scratch.now.stack.len = ap length cleared ∙ length-with_bytes stack 0 empty_frame fits ∙ sym c.args.scratch.now.stack.ok.0 in
    let items : (with_items c.args.scratch.now.stack c.clear_frame.new.stack).items ≡ with_bytes stack 0 empty_frame = with_items_is c.args.scratch.now.stack c.clear_frame.new.stack long ∙ cleared in
    parts_same _ _ 0 start_registers start_registers _ _ _ _ maps packet refl refl c.clear.ensures items ∙ restarted stack maps packet room
