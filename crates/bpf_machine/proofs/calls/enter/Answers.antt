use Rattle.std.proofs.Common.{◌≡◌, ℕ, ◌+◌, ◌*◌, ◌<◌, ◌≤◌, ◌∙◌, List, length, slice_set, arith, ap, sym}
use Rattle.std.specs.Prelude.{pos, ◌+ℤ◌, ◌==◌, false}
use Rattle.std.specs.Int.{w64, cast_unsigned, cast_signed}
use Rattle.std.specs.Vec.{with_items}
use Rattle.std.proofs.lemmas.Bool.Decides.{nat_tests}
use Rattle.std.proofs.lemmas.Int.{ints}
use Rattle.std.proofs.lemmas.List.{with_items_is}
use Rattle.flat_memory.specs.Numbers.{with_bytes}
use Rattle.flat_memory.proofs.Bytes.{length-with_bytes}
use Rattle.bpf_machine.specs.declared.scratch.Caller.{Caller}
use Rattle.bpf_machine.specs.Next.{Goes}
use Rattle.bpf_machine.specs.State.{empty_frame, frame_start, frame_size}
use Rattle.bpf_machine.proofs.Frames.{length-empty_frame}
use Rattle.bpf_machine.proofs.States.{called, parts_same, kept_is}
use Rattle.bpf_machine.proofs.calls.enter.Goals as goal

pub returns : goal.returns
returns c = λ maps packet.
    let registers : List ℕ = c.args.scratch.now.registers in
    let callers : List Caller = c.args.scratch.now.callers.items in
    let stack : List ℕ = c.args.scratch.now.stack.items in
    let room : length stack ≡ 0x7200 = sym c.args.scratch.now.stack.ok.0 ∙ c.args.scratch.now.room in
    let full : (length callers == 7) ≡ false = sym c.is_full.ensures.value ∙ c.if-is_full.false in
    let most : length callers ≤ 7 = c.is_full.ensures.fits in
    let deep : length callers < 7 = grind (arith, nat_tests) in
    let long : length registers ≡ 11 = omega arith in
    let next : cast_signed w64 (cast_unsigned w64 (cast_signed w64 (cast_unsigned w64 (cast_signed w64 (cast_unsigned w64 c.from.result) +ℤ pos 1)) +ℤ cast_signed w64 (cast_unsigned w64 c.from-2.result))) ≡ (pos c.args.at +ℤ pos 1) +ℤ c.args.distance = omega (arith, ints) in
    let depth : c.len-depth.result ≡ length callers + 1 = c.len-depth.ensures.value ∙ c.push.ensures.len in
    let top : 536870912 + (4096 * c.len-depth.result + 512) ≡ frame_start (length callers + 1) + frame_size = omega arith in
    let cleared : c.clear_frame.new.stack ≡ with_bytes stack (0x1000 * (length callers + 1)) empty_frame = rw (c.deref_mut.ensures.value, depth) at c.clear_frame.ensures in
    let size : length empty_frame ≡ 512 = length-empty_frame in
    let fits : 0x1000 * (length callers + 1) + length empty_frame ≤ length stack = omega arith in
    let kept_long : length c.clear_frame.new.stack ≡ c.args.scratch.now.stack.len = ap length cleared ∙ length-with_bytes stack (0x1000 * (length callers + 1)) empty_frame fits ∙ sym c.args.scratch.now.stack.ok.0 in
    let items : (with_items c.args.scratch.now.stack c.clear_frame.new.stack).items ≡ with_bytes stack (0x1000 * (length callers + 1)) empty_frame = with_items_is c.args.scratch.now.stack c.clear_frame.new.stack kept_long ∙ cleared in
    called c.args.at c.args.scratch.now.target registers callers stack maps packet c.args.distance _ deep room (kept_is registers long)
    ∙ ap Goes (parts_same _ _ c.args.scratch.now.target _ _ _ _ _ _ maps packet (sym next) (ap (λ (x : ℕ). slice_set registers 10 x) (sym top)) (sym c.push.ensures.items) (sym items))
