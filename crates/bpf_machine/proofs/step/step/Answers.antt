use Rattle.std.proofs.Common.{◌≡◌, ℕ, length, slice_get, Some, arith, sym, refl, subst}
use Rattle.std.specs.Prelude.{ℤ, pos, ◌≤ℤ◌, false}
use lib.Signed.{lt_z}
use Rattle.std.specs.Int.{w64, cast_unsigned, cast_signed}
use Rattle.std.proofs.Math.IntN.{nat_abs}
use Rattle.std.proofs.lemmas.Int.{ints}
use Rattle.std.proofs.lemmas.Option.{slice_get_read}
use Rattle.bpf_insn.specs.Form.{IsListed}
use Rattle.bpf_insn.specs.Operation.{opcode_of}
use Rattle.bpf_insn.specs.declared.operation.Operation.{Operation}
use Rattle.bpf_machine.specs.Instruction.{act}
use Rattle.bpf_machine.specs.Machine.{state_of, next_of, IsCarriedOut}
use Rattle.bpf_machine.specs.Run.{instruction_at}
use Rattle.bpf_machine.proofs.Listed.{code_listed}
use Rattle.bpf_machine.proofs.Steps.{pos_abs, at_slot, steps_to, steps_only}
use Rattle.bpf_machine.proofs.step.step.Goals as goal

pub dispatch-flow-requires : goal.dispatch-flow-requires
dispatch-flow-requires c =
    let L = c.in-Some.ensures.lookup in
    let k : ℕ = nat_abs (cast_signed w64 (cast_unsigned w64 c.args.next)) in
    let found : slice_get c.args.code.now k ≡ Some c.in-Some.insn.now = slice_get_read c.args.code.now (length c.args.code.now) k c.in-Some.insn.now refl L.3.0 L.1 in
    code_listed c.args.code.now k c.in-Some.insn.now c.requires.code found c.if-insn.false

pub returns-clause-some : goal.returns-clause-some
unfolding IsCarriedOut
returns-clause-some c =
    let L = c.in-Some.ensures.lookup in
    let k : ℕ = nat_abs (cast_signed w64 (cast_unsigned w64 c.args.next)) in
    let next : cast_signed w64 (cast_unsigned w64 c.args.next) ≡ c.args.next = omega (arith, ints) in
    let test : lt_z c.args.next (pos 0) ≡ false = rw next at c.if-next-lt0.false in
    let above : pos 0 ≤ℤ c.args.next = grind (arith, ints) in
    let place : c.args.next ≡ pos k = rw next (pos_abs c.args.next above) in
    let found : slice_get c.args.code.now k ≡ Some c.in-Some.insn.now = slice_get_read c.args.code.now (length c.args.code.now) k c.in-Some.insn.now refl L.3.0 L.1 in
    let at : instruction_at c.args.code.now c.args.next ≡ Some c.in-Some.insn.now = at_slot c.args.code.now c.args.next k c.in-Some.insn.now place found c.if-insn.false in
    let listed : IsListed c.in-Some.insn.now = code_listed c.args.code.now k c.in-Some.insn.now c.requires.code found c.if-insn.false in
    let opcode : opcode_of listed.0 ≡ c.in-Some.insn.now.opcode = sym listed.1.opcode in
    let acts = subst (λ (z : ℤ). act c.args.code.now c.args.env.now (state_of z c.args.scratch.now c.args.store.now c.args.frame.now) c.in-Some.insn.now listed.0 ≡ next_of z c.dispatch-flow.result (λ slot. state_of slot c.dispatch-flow.new.scratch c.dispatch-flow.new.store c.dispatch-flow.new.frame)) (sym place) (c.dispatch-flow.ensures.after listed.0 opcode) in
    steps_to c.args.code.now c.args.env.now (state_of c.args.next c.args.scratch.now c.args.store.now c.args.frame.now) c.in-Some.insn.now listed.0 _ at opcode acts

pub returns-clause-only : goal.returns-clause-only
unfolding IsCarriedOut
returns-clause-only c = λ outcome steps.
    let L = c.in-Some.ensures.lookup in
    let k : ℕ = nat_abs (cast_signed w64 (cast_unsigned w64 c.args.next)) in
    let next : cast_signed w64 (cast_unsigned w64 c.args.next) ≡ c.args.next = omega (arith, ints) in
    let test : lt_z c.args.next (pos 0) ≡ false = rw next at c.if-next-lt0.false in
    let above : pos 0 ≤ℤ c.args.next = grind (arith, ints) in
    let place : c.args.next ≡ pos k = rw next (pos_abs c.args.next above) in
    let found : slice_get c.args.code.now k ≡ Some c.in-Some.insn.now = slice_get_read c.args.code.now (length c.args.code.now) k c.in-Some.insn.now refl L.3.0 L.1 in
    let at : instruction_at c.args.code.now c.args.next ≡ Some c.in-Some.insn.now = at_slot c.args.code.now c.args.next k c.in-Some.insn.now place found c.if-insn.false in
    let acts = λ (operation : Operation) (opcode : opcode_of operation ≡ c.in-Some.insn.now.opcode). subst (λ (z : ℤ). act c.args.code.now c.args.env.now (state_of z c.args.scratch.now c.args.store.now c.args.frame.now) c.in-Some.insn.now operation ≡ next_of z c.dispatch-flow.result (λ slot. state_of slot c.dispatch-flow.new.scratch c.dispatch-flow.new.store c.dispatch-flow.new.frame)) (sym place) (c.dispatch-flow.ensures.after operation opcode) in
    steps_only c.args.code.now c.args.env.now (state_of c.args.next c.args.scratch.now c.args.store.now c.args.frame.now) c.in-Some.insn.now _ at acts outcome steps
