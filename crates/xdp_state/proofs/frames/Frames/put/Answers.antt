use Rattle.xdp_state.specs.Dump.{captured_at, kept_of}
use Rattle.xdp_state.proofs.Framing.{frames-more}
use Rattle.xdp_state.proofs.frames.Frames.put.Goals as goal

pub returns : goal.returns
returns c =
    let old = c.self.inside in
    rw (← c.self.view_is, c.push_reserved.ensures.items, c.keep_if-mark.ensures.bytes)
    (frames-more old.bytes.items (kept_of c.args.snap c.args.frame.now) old.bytes.len old.marks.items c.keep_if-mark.result (captured_at c.args.snap c.args.frame.now) old.bytes.ok.0 c.self.invariant.inside
    (rw c.keep_if-mark.ensures.bytes at c.keep_if-mark.ensures.frame))
