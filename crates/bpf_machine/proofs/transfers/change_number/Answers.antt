use Rattle.std.proofs.Common.{◌≡◌, ◌∙◌, Some, None, slice_index, arith, ap, sym, refl}
use Rattle.std.specs.Prelude.{ℤ, pos}
use Rattle.std.specs.Int.{w16, w32, cast_unsigned, cast_signed}
use Rattle.std.proofs.lemmas.Int.{ints}
use Rattle.bpf_machine.specs.Access.{address_of}
use Rattle.bpf_machine.specs.Machine.{state_of}
use Rattle.bpf_machine.specs.State.{State}
use Rattle.bpf_machine.proofs.Atomics.{atomic_found, atomic_fault}
use Rattle.bpf_machine.proofs.transfers.change_number.Goals as goal

pub unreachable-requires : goal.unreachable-requires
unreachable-requires c =
    let imm : cast_signed w32 (cast_unsigned w32 c.args.insn.now.imm) ≡ c.args.insn.now.imm = omega (arith, ints) in
    let none : None ≡ Some c.requires.atomic.op = c.in_default.ensures.only c.requires.atomic.op (sym c.requires.atomic.code ∙ sym imm) in
    cc

pub returns-then-not-store_number-clause-after : goal.returns-then-not-store_number-clause-after
returns-then-not-store_number-clause-after c =
    let imm : cast_signed w32 (cast_unsigned w32 c.args.insn.now.imm) ≡ c.args.insn.now.imm = omega (arith, ints) in
    let offset : cast_signed w16 (cast_unsigned w16 c.args.insn.now.offset) ≡ c.args.insn.now.offset = omega (arith, ints) in
    let s : State = state_of (pos c.args.at) c.args.scratch.now c.args.store.now c.args.frame.now in
    let t : State = state_of (pos c.args.at) c.store_number.new.scratch c.store_number.new.store c.store_number.new.frame in
    atomic_fault c.args.width c.args.env.now s t c.args.insn.now c.in-Some.op c.in-Some-load.old c.address-address.result c.exchange-new.result
    (atomic_found c.args.insn.now.imm c.in-Some.op (c.in-Some.ensures.found ∙ imm))
    (c.address-address.ensures ∙ ap (λ (z : ℤ). address_of (slice_index c.args.scratch.now.registers c.args.insn.now.target) z) offset)
    (rw c.size_of_width-size.ensures at (c.in-Some-load.ensures (pos c.args.at)))
    c.exchange-new.ensures
    (rw c.size_of_width-size.ensures at (c.if-not-store_number.ensures.state (pos c.args.at)))
    (c.if-not-store_number.ensures.fault refl (pos c.args.at))
