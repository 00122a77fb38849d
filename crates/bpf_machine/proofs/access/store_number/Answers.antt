use Rattle.std.proofs.Common.{◌≡◌, ℕ, ◌+◌, ◌-◌, ◌<◌, ◌∙◌, List, length, true, false, Some, arith, ap, sym}
use Rattle.std.specs.Vec.{with_items}
use Rattle.std.proofs.lemmas.List.{with_items_is}
use Rattle.flat_memory.specs.Numbers.{with_bytes, stored, size_of}
use Rattle.bpf_machine.specs.Access.{is_between}
use Rattle.bpf_machine.specs.Stack.{in_frames}
use Rattle.bpf_machine.specs.State.{Packet, packet_start, stack_start}
use Rattle.bpf_machine.proofs.States.{parts}
use Rattle.bpf_machine.proofs.Accesses.{stored_in_packet, stored_in_stack, stored_outside}
use Rattle.bpf_machine.proofs.access.store_number.Goals as goal

pub returns-then-store-clause-state : goal.returns-then-store-clause-state
returns-then-store-clause-state c = λ next.
    let inside : is_between c.args.address (size_of c.args.size) (packet_start + c.args.frame.now.data_start) (packet_start + c.args.frame.now.data_end) ≡ true = sym c.store.ensures.test ∙ c.if-store.true in
    let after : c.store.new.self ≡ record c.args.frame.now { buffer = with_bytes c.args.frame.now.buffer (c.args.address - packet_start) (stored c.args.size c.args.value) } = rw c.if-store.true at c.store.ensures.after in
    stored_in_packet next c.args.scratch.now.target c.args.scratch.now.registers c.args.scratch.now.callers.items c.args.scratch.now.stack.items c.args.store.now c.args.frame.now c.args.address c.args.size c.args.value c.store.ensures.packet inside
    ∙ ap (λ (p : Packet). Some (parts next c.args.scratch.now.target c.args.scratch.now.registers c.args.scratch.now.callers.items c.args.scratch.now.stack.items c.args.store.now p)) (sym after)

pub returns-then-store_stack-clause-state : goal.returns-then-store_stack-clause-state
returns-then-store_stack-clause-state c = λ next.
    let stack : List ℕ = c.args.scratch.now.stack.items in
    let room : length stack ≡ 0x7200 = sym c.args.scratch.now.stack.ok.0 ∙ c.args.scratch.now.room in
    let outside : is_between c.args.address (size_of c.args.size) (packet_start + c.args.frame.now.data_start) (packet_start + c.args.frame.now.data_end) ≡ false = sym c.store.ensures.test ∙ c.if-store.false in
    let same : c.store.new.self ≡ c.args.frame.now = rw c.if-store.false at c.store.ensures.after in
    let test : c.store_stack.result ≡ in_frames (length c.args.scratch.now.callers.items) c.args.address (size_of c.args.size) = rw c.len-depth.ensures.value at c.store_stack.ensures.test in
    let deep : length c.args.scratch.now.callers.items < 8 = omega (arith, c.len-depth.ensures.value, c.len-depth.ensures.fits) in
    let bytes : List ℕ = with_bytes stack (c.args.address - stack_start) (stored c.args.size c.args.value) in
    let after : c.store_stack.new.stack ≡ bytes = rw (c.if-store_stack.true, c.deref_mut.ensures.value) at c.store_stack.ensures.after in
    let long : length c.store_stack.new.stack ≡ c.args.scratch.now.stack.len = omega arith in
    let items : (with_items c.args.scratch.now.stack c.store_stack.new.stack).items ≡ bytes = with_items_is c.args.scratch.now.stack c.store_stack.new.stack long ∙ after in
    rw same (stored_in_stack next c.args.scratch.now.target c.args.scratch.now.registers c.args.scratch.now.callers.items stack c.args.store.now c.args.frame.now c.args.address c.args.size c.args.value room deep outside (sym test ∙ c.if-store_stack.true)
    ∙ ap (λ (xs : List ℕ). Some (parts next c.args.scratch.now.target c.args.scratch.now.registers c.args.scratch.now.callers.items xs c.args.store.now c.args.frame.now)) (sym items))

pub returns-clause-state : goal.returns-clause-state
returns-clause-state c = λ next.
    let stack : List ℕ = c.args.scratch.now.stack.items in
    let room : length stack ≡ 0x7200 = sym c.args.scratch.now.stack.ok.0 ∙ c.args.scratch.now.room in
    let outside : is_between c.args.address (size_of c.args.size) (packet_start + c.args.frame.now.data_start) (packet_start + c.args.frame.now.data_end) ≡ false = sym c.store.ensures.test ∙ c.if-store.false in
    let same : c.store.new.self ≡ c.args.frame.now = rw c.if-store.false at c.store.ensures.after in
    let test : c.store_stack.result ≡ in_frames (length c.args.scratch.now.callers.items) c.args.address (size_of c.args.size) = rw c.len-depth.ensures.value at c.store_stack.ensures.test in
    let after : c.store_stack.new.stack ≡ stack = rw (c.if-store_stack.false, c.deref_mut.ensures.value) at c.store_stack.ensures.after in
    let long : length c.store_stack.new.stack ≡ c.args.scratch.now.stack.len = omega arith in
    let items : (with_items c.args.scratch.now.stack c.store_stack.new.stack).items ≡ stack = with_items_is c.args.scratch.now.stack c.store_stack.new.stack long ∙ after in
    rw (same, items) (stored_outside next c.args.scratch.now.target c.args.scratch.now.registers c.args.scratch.now.callers.items stack c.args.store.now c.store-2.new.self c.args.frame.now c.args.address c.args.size c.args.value c.store-2.result
    outside (sym test ∙ c.if-store_stack.false) c.store-2.ensures.answer c.store-2.ensures.done)
