use Rattle.std.proofs.Common.{◌≡◌, ◌∙◌, slice_index, arith, ap, refl}
use Rattle.std.specs.Prelude.{ℤ, pos}
use Rattle.std.specs.Int.{w16, cast_unsigned, cast_signed}
use Rattle.std.proofs.lemmas.Int.{ints}
use Rattle.bpf_machine.specs.Access.{address_of}
use Rattle.bpf_machine.specs.Machine.{state_of}
use Rattle.bpf_machine.proofs.Atomics.{store_fault}
use Rattle.bpf_machine.proofs.transfers.store_operand.Goals as goal

pub returns-else-store_number-clause-after : goal.returns-else-store_number-clause-after
returns-else-store_number-clause-after c =
    let offset : cast_signed w16 (cast_unsigned w16 c.args.insn.now.offset) ≡ c.args.insn.now.offset = omega (arith, ints) in
    store_fault (state_of (pos c.args.at) c.args.scratch.now c.args.store.now c.args.frame.now) (state_of (pos c.args.at) c.store_number.new.scratch c.store_number.new.store c.store_number.new.frame) c.args.insn.now c.args.size c.args.operand c.address-address.result c.operand_value-value.result
    (c.address-address.ensures ∙ ap (λ (z : ℤ). address_of (slice_index c.args.scratch.now.registers c.args.insn.now.target) z) offset) c.operand_value-value.ensures (c.if-store_number.ensures.state (pos c.args.at)) (c.if-store_number.ensures.fault refl (pos c.args.at))
