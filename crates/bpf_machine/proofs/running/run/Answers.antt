use Rattle.std.proofs.Common.{refl}
use Rattle.bpf_machine.specs.Machine.{state_of, ending_of}
use Rattle.bpf_machine.specs.Run.{IsEnd, HoldsPacket}
use Rattle.bpf_machine.specs.State.{State, start}
use Rattle.bpf_machine.proofs.Answered.{is_end, is_run, is_only}
use Rattle.bpf_machine.proofs.States.{holds}
use Rattle.bpf_machine.proofs.running.run.Goals as goal

pub returns-clause-exact : goal.returns-clause-exact
returns-clause-exact c =
    let e = c.run_for-halt.ensures.ending in
    let state : State = state_of e.0 c.run_for-halt.new.scratch c.run_for-halt.new.store c.run_for-halt.new.frame in
    let left : HoldsPacket state c.run_for-halt.new.frame =
    holds e.0 c.run_for-halt.new.scratch.target c.run_for-halt.new.scratch.registers c.run_for-halt.new.scratch.callers.items c.run_for-halt.new.scratch.stack.items c.run_for-halt.new.store c.run_for-halt.new.frame c.bounds.ensures in
    let end : IsEnd (ending_of 65536 c.run_for-halt.result state) c.answer.result c.run_for-halt.new.store c.run_for-halt.new.frame = is_end c.run_for-halt.result state c.answer.result c.run_for-halt.new.store c.run_for-halt.new.frame (c.answer.ensures state refl refl) refl left in
    is_run c.args.code.now.insns c.args.env.now _ (start c.args.store.now c.args.frame.now) (ending_of 65536 c.run_for-halt.result state) c.answer.result c.run_for-halt.new.store c.run_for-halt.new.frame (c.restart.ensures c.args.store.now c.args.frame.now) (rw c.as_slice.ensures at e.1) end

pub returns-clause-only : goal.returns-clause-only
returns-clause-only c =
    let e = c.run_for-halt.ensures.ending in
    let state : State = state_of e.0 c.run_for-halt.new.scratch c.run_for-halt.new.store c.run_for-halt.new.frame in
    let left : HoldsPacket state c.run_for-halt.new.frame =
    holds e.0 c.run_for-halt.new.scratch.target c.run_for-halt.new.scratch.registers c.run_for-halt.new.scratch.callers.items c.run_for-halt.new.scratch.stack.items c.run_for-halt.new.store c.run_for-halt.new.frame c.bounds.ensures in
    let end : IsEnd (ending_of 65536 c.run_for-halt.result state) c.answer.result c.run_for-halt.new.store c.run_for-halt.new.frame = is_end c.run_for-halt.result state c.answer.result c.run_for-halt.new.store c.run_for-halt.new.frame (c.answer.ensures state refl refl) refl left in
    is_only c.args.code.now.insns c.args.env.now _ (start c.args.store.now c.args.frame.now) (ending_of 65536 c.run_for-halt.result state) c.answer.result c.run_for-halt.new.store c.run_for-halt.new.frame (c.restart.ensures c.args.store.now c.args.frame.now) (rw c.as_slice.ensures at e.1) end
