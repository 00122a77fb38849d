use Rattle.std.proofs.Common.{◌≡◌, ◌<◌, ◌∙◌, length, arith, sym}
use Rattle.map_store.specs.Slots.{map_at}
use Rattle.bpf_machine.proofs.Accesses.{part_of}
use Rattle.bpf_machine.proofs.maps.read_value.Goals as goal

pub returns-clause-value : goal.returns-clause-value
returns-clause-value c = λ next.
    let room : length c.args.scratch.now.stack.items ≡ 0x7200 = sym c.args.scratch.now.stack.ok.0 ∙ c.args.scratch.now.room in
    let deep : length c.args.scratch.now.callers.items < 8 = omega (arith, c.len-depth.ensures.value, c.len-depth.ensures.fits) in
    part_of c.args.env.now next c.args.scratch.now.target c.args.scratch.now.registers c.args.scratch.now.callers.items c.args.scratch.now.stack.items c.args.store.now c.args.frame.now _ (map_at c.args.store.now c.args.map).value_size c.bounds.ensures room deep
    ∙ sym (rw (c.len-depth.ensures.value, c.deref.ensures.value, c.value_size-count.ensures.size) at c.copy_bytes.ensures.bytes)
