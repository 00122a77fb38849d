use Rattle.std.proofs.Common.{◌≡◌, ◌<◌, ◌∙◌, length, slice_index, arith, sym}
use Rattle.map_store.specs.Slots.{map_at}
use Rattle.bpf_machine.proofs.Accesses.{part_of}
use Rattle.bpf_machine.proofs.maps.key_bytes.Goals as goal

pub returns : goal.returns
returns c = λ env next is.
    let room : length c.args.scratch.now.stack.items ≡ 0x7200 = sym c.args.scratch.now.stack.ok.0 ∙ c.args.scratch.now.room in
    let deep : length c.args.scratch.now.callers.items < 8 = omega (arith, c.len-depth.ensures.value, c.len-depth.ensures.fits) in
    part_of env next c.args.scratch.now.target c.args.scratch.now.registers c.args.scratch.now.callers.items c.args.scratch.now.stack.items c.args.store.now c.args.frame.now (slice_index c.args.scratch.now.registers 2) (map_at c.args.store.now c.args.map).key_size c.bounds.ensures room deep
    ∙ sym (rw (c.len-depth.ensures.value, c.deref.ensures.value, c.key_size-count.ensures.size, is) at c.bytes_in.ensures.bytes)
