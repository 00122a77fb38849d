use Rattle.std.proofs.Common.{ap, Some}
use Rattle.xdp_state.specs.declared.dump.Captured.{Captured}
use Rattle.xdp_state.proofs.Framing.{marked-last}
use Rattle.xdp_state.proofs.frames.keep_if.Goals as goal

pub returns-in-Some-clause-frame : goal.returns-in-Some-clause-frame
returns-in-Some-clause-frame c =
    rw (c.in-Some.is, c.keep.ensures.bytes) (ap (λ (f : Captured). Some f) (marked-last c.args.bytes.now.items c.args.frame.now c.in-Some.snap c.args.bytes.now.len c.keep.result c.args.bytes.now.ok.0 c.keep.ensures.mark))
