use Rattle.std.proofs.Common.{◌≡◌, ◌<◌, ◌∙◌, length, arith, sym}
use Rattle.bpf_machine.proofs.Accesses.{loaded}
use Rattle.bpf_machine.proofs.access.load.Goals as goal

pub returns : goal.returns
returns c = λ next.
    let room : length c.args.scratch.now.stack.items ≡ 0x7200 = sym c.args.scratch.now.stack.ok.0 ∙ c.args.scratch.now.room in
    let deep : length c.args.scratch.now.callers.items < 8 = omega (arith, c.len.ensures.value, c.len.ensures.fits) in
    loaded c.args.env.now next c.args.scratch.now.target c.args.scratch.now.registers c.args.scratch.now.callers.items c.args.scratch.now.stack.items c.args.store.now c.args.frame.now c.args.address c.args.size c.bounds.ensures room deep
    ∙ sym (rw (c.len.ensures.value, c.deref.ensures.value) at c.load_region.ensures)
