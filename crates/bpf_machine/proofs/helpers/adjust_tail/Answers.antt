use Rattle.std.proofs.Common.{◌≡◌, true, Some, None, slice_index, ap, ◌∙◌, arith}
use Rattle.std.specs.Prelude.{◌==◌}
use Rattle.std.specs.Int.{w32, cast_signed, cast_unsigned}
use Rattle.std.proofs.lemmas.Int.{ints}
use Rattle.std.proofs.lemmas.Bool.Decides.{nat_tests}
use Rattle.bpf_machine.specs.Helpers.{delta_in}
use Rattle.bpf_machine.specs.Machine.{state_of, with_end}
use Rattle.bpf_machine.specs.State.{State, context_start}
use Rattle.bpf_machine.proofs.Adjusting.{tail_moved, tail_stays}
use Rattle.bpf_machine.proofs.helpers.adjust_tail.Goals as goal

pub returns-then-move_tail-clause-after : goal.returns-then-move_tail-clause-after
returns-then-move_tail-clause-after c = λ next maps.
    let s : State = state_of next c.args.scratch.now maps c.args.frame.now in
    let same : cast_signed w32 (cast_unsigned w32 c.cast_signed-delta.result) ≡ c.cast_signed-delta.result = omega (arith, ints) in
    let delta : cast_signed w32 (cast_unsigned w32 c.cast_signed-delta.result) ≡ delta_in s 2 = same ∙ c.cast_signed-delta.ensures ∙ ap (cast_signed w32) c.low_half.ensures in
    let moved : with_end c.args.frame.now (delta_in s 2) ≡ Some c.move_tail.new.self = rw (delta, c.if-move_tail.true) at c.move_tail.ensures.moved in
    let one : (slice_index c.args.scratch.now.registers 1 == context_start) ≡ true = grind (arith, nat_tests) in
    rw one (tail_moved next c.args.scratch.now.target c.args.scratch.now.registers c.args.scratch.now.callers.items c.args.scratch.now.stack.items maps c.args.frame.now c.move_tail.new.self (delta_in s 2) c.move_tail.ensures.packet moved)

pub returns-else-move_tail-clause-after : goal.returns-else-move_tail-clause-after
returns-else-move_tail-clause-after c = λ next maps.
    let s : State = state_of next c.args.scratch.now maps c.args.frame.now in
    let same : cast_signed w32 (cast_unsigned w32 c.cast_signed-delta.result) ≡ c.cast_signed-delta.result = omega (arith, ints) in
    let delta : cast_signed w32 (cast_unsigned w32 c.cast_signed-delta.result) ≡ delta_in s 2 = same ∙ c.cast_signed-delta.ensures ∙ ap (cast_signed w32) c.low_half.ensures in
    let stays : with_end c.args.frame.now (delta_in s 2) ≡ None = rw (delta, c.if-move_tail.false) at c.move_tail.ensures.moved in
    let one : (slice_index c.args.scratch.now.registers 1 == context_start) ≡ true = grind (arith, nat_tests) in
    rw (one, c.move_tail.ensures.refused c.if-move_tail.false, c.cast_unsigned.ensures) (tail_stays next c.args.scratch.now.target c.args.scratch.now.registers c.args.scratch.now.callers.items c.args.scratch.now.stack.items maps c.args.frame.now (delta_in s 2) stays)
