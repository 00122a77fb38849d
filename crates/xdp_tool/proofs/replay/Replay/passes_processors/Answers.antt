use Rattle.std.proofs.Common.{◌≡◌, ◌∙◌, ◌+◌, true, false, drop, inl, inr}
use Rattle.std.proofs.lemmas.Bool.{cases_Bool}
use Rattle.xdp_tool.proofs.Comparing.{parts-step, parts-stop, processors-at}
use Rattle.xdp_tool.specs.Replay.{packets_lines, processors_lines}
use Rattle.xdp_tool.proofs.replay.Replay.passes_processors.Goals as goal

pub loop-processor-preserved : goal.loop-processor-preserved
loop-processor-preserved c =
    let inv = c.loop-processor.invariant in
    let xss = c.args.carried.now in
    let k = c.loop-processor.processor in
    let same = c.in_ok-passes_packets.field-0 in
    let passed : same ≡ true = elim (cases_Bool same) [
      | inl good ↦ good
      | inr bad ↦ absurd (let wrong = rw bad at c.if-not-branch.false in cc)
    ] in
    record {
      lines = parts-step (packets_lines k 0 c.at.result.now) (processors_lines k (drop k xss)) (processors_lines (k + 1) (drop (k + 1) xss)) c.loop-processor.self.rest.now c.passes_packets.new.self.rest.now same _
          (processors-at xss k c.at.result.now c.at.ensures) c.in_ok-passes_packets.ensures.lines passed inv.lines;
      trace = c.passes_packets.ensures.same_trace ∙ inv.trace;
      lasts = c.passes_packets.ensures.same_lasts ∙ inv.lasts;
    }

pub returns-then-not-branch-clause-lines : goal.returns-then-not-branch-clause-lines
returns-then-not-branch-clause-lines c =
    let inv = c.loop-processor.invariant in
    let xss = c.args.carried.now in
    let k = c.loop-processor.processor in
    let same = c.in_ok-passes_packets.field-0 in
    let differs : same ≡ false = elim (cases_Bool same) [
      | inl good ↦ absurd (let wrong = rw good at c.if-not-branch.true in cc)
      | inr bad ↦ bad
    ] in
    parts-stop (packets_lines k 0 c.at.result.now) (processors_lines k (drop k xss)) (processors_lines (k + 1) (drop (k + 1) xss)) c.loop-processor.self.rest.now c.passes_packets.new.self.rest.now same _
    (processors-at xss k c.at.result.now c.at.ensures) c.in_ok-passes_packets.ensures.lines differs inv.lines
