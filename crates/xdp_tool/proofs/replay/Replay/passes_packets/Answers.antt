use Rattle.std.proofs.Common.{◌≡◌, ◌∙◌, ◌+◌, true, false, drop, inl, inr}
use Rattle.std.proofs.lemmas.Bool.{cases_Bool}
use Rattle.script_text.specs.Trace.{packet_trace}
use Rattle.xdp_tool.proofs.Comparing.{lines-step, lines-stop, packets-at}
use Rattle.xdp_tool.specs.Replay.{packets_lines}
use Rattle.xdp_tool.proofs.replay.Replay.passes_packets.Goals as goal

pub loop-place-preserved : goal.loop-place-preserved
loop-place-preserved c =
    let inv = c.loop-place.invariant in
    let p = c.args.processor in
    let xs = c.args.packets.now in
    let k = c.loop-place.place in
    let seen = rw (c.as_slice.ensures, c.in_ok-line.ensures) at c.passes.ensures.line in
    let passed : c.passes.result ≡ true = elim (cases_Bool c.passes.result) [
      | inl good ↦ good
      | inr bad ↦ absurd (let wrong = rw bad at c.if-not-passes.false in cc)
    ] in
    record {
      lines = lines-step (packet_trace p k c.at.result.now) (packets_lines p k (drop k xs)) (packets_lines p (k + 1) (drop (k + 1) xs)) c.loop-place.self.rest.now c.passes.new.self.rest.now c.passes.result _
          (packets-at p xs k c.at.result.now c.at.ensures) seen passed inv.lines;
      trace = c.passes.ensures.same_trace ∙ inv.trace;
      lasts = c.passes.ensures.same_lasts ∙ inv.lasts;
    }

pub returns-then-not-passes-clause-lines : goal.returns-then-not-passes-clause-lines
returns-then-not-passes-clause-lines c =
    let inv = c.loop-place.invariant in
    let p = c.args.processor in
    let xs = c.args.packets.now in
    let k = c.loop-place.place in
    let seen = rw (c.as_slice.ensures, c.in_ok-line.ensures) at c.passes.ensures.line in
    let differs : c.passes.result ≡ false = elim (cases_Bool c.passes.result) [
      | inl good ↦ absurd (let wrong = rw good at c.if-not-passes.true in cc)
      | inr bad ↦ bad
    ] in
    lines-stop (packet_trace p k c.at.result.now) (packets_lines p k (drop k xs)) (packets_lines p (k + 1) (drop (k + 1) xs)) c.loop-place.self.rest.now c.passes.new.self.rest.now c.passes.result _
    (packets-at p xs k c.at.result.now c.at.ensures) seen differs inv.lines
