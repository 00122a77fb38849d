use Rattle.std.proofs.Common.{◌≡◌, true, Some, None, slice_index, ap, ◌∙◌, arith}
use Rattle.std.specs.Prelude.{◌==◌}
use Rattle.std.specs.Int.{w32, cast_signed, cast_unsigned}
use Rattle.std.proofs.lemmas.Int.{ints}
use Rattle.std.proofs.lemmas.Bool.Decides.{nat_tests}
use Rattle.bpf_machine.specs.Helpers.{delta_in}
use Rattle.bpf_machine.specs.Machine.{state_of, with_start}
use Rattle.bpf_machine.specs.State.{State, context_start}
use Rattle.bpf_machine.proofs.Adjusting.{head_moved, head_stays}
use Rattle.bpf_machine.proofs.helpers.adjust_head.Goals as goal

pub returns-then-move_head-clause-after : goal.returns-then-move_head-clause-after
returns-then-move_head-clause-after c = λ next maps.
    let s : State = state_of next c.args.scratch.now maps c.args.frame.now in
    let same : cast_signed w32 (cast_unsigned w32 c.cast_signed-delta.result) ≡ c.cast_signed-delta.result = omega (arith, ints) in
    let delta : cast_signed w32 (cast_unsigned w32 c.cast_signed-delta.result) ≡ delta_in s 2 = same ∙ c.cast_signed-delta.ensures ∙ ap (cast_signed w32) c.low_half.ensures in
    let moved : with_start c.args.frame.now (delta_in s 2) ≡ Some c.move_head.new.self = rw (delta, c.if-move_head.true) at c.move_head.ensures.moved in
    let one : (slice_index c.args.scratch.now.registers 1 == context_start) ≡ true = grind (arith, nat_tests) in
    rw one (head_moved next c.args.scratch.now.target c.args.scratch.now.registers c.args.scratch.now.callers.items c.args.scratch.now.stack.items maps c.args.frame.now c.move_head.new.self (delta_in s 2) moved)

pub returns-else-move_head-clause-after : goal.returns-else-move_head-clause-after
returns-else-move_head-clause-after c = λ next maps.
    let s : State = state_of next c.args.scratch.now maps c.args.frame.now in
    let same : cast_signed w32 (cast_unsigned w32 c.cast_signed-delta.result) ≡ c.cast_signed-delta.result = omega (arith, ints) in
    let delta : cast_signed w32 (cast_unsigned w32 c.cast_signed-delta.result) ≡ delta_in s 2 = same ∙ c.cast_signed-delta.ensures ∙ ap (cast_signed w32) c.low_half.ensures in
    let stays : with_start c.args.frame.now (delta_in s 2) ≡ None = rw (delta, c.if-move_head.false) at c.move_head.ensures.moved in
    let one : (slice_index c.args.scratch.now.registers 1 == context_start) ≡ true = grind (arith, nat_tests) in
    rw (one, c.move_head.ensures.refused c.if-move_head.false, c.cast_unsigned.ensures) (head_stays next c.args.scratch.now.target c.args.scratch.now.registers c.args.scratch.now.callers.items c.args.scratch.now.stack.items maps c.args.frame.now (delta_in s 2) stays)
