use Rattle.std.proofs.Common.{◌≡◌, true, false, inl, inr}
use Rattle.std.proofs.lemmas.Bool.{cases_Bool}
use Rattle.script_text.specs.Trace.{heading}
use Rattle.xdp_tool.proofs.Comparing.{phase-same, phase-stop}
use Rattle.xdp_tool.specs.Replay.{end_lines, processors_lines}
use Rattle.xdp_tool.proofs.replay.Replay.passes_phase.Goals as goal

pub returns-then-not-branch-clause-lines : goal.returns-then-not-branch-clause-lines
returns-then-not-branch-clause-lines c =
    let same = c.in_ok-passes_processors.field-0 in
    let passed : c.passes.result ≡ true = elim (cases_Bool c.passes.result) [
      | inl good ↦ good
      | inr bad ↦ absurd (let wrong = rw bad at c.if-not-passes.false in cc)
    ] in
    let differs : same ≡ false = elim (cases_Bool same) [
      | inl good ↦ absurd (let wrong = rw good at c.if-not-branch.true in cc)
      | inr bad ↦ bad
    ] in
    let seen = rw (c.as_bytes.ensures.value, c.in_ok-heading.ensures.ok) at c.passes.ensures.line in
    phase-stop (heading c.args.number) (processors_lines 0 c.args.carried.now) (end_lines c.args.whole c.args.barrier) c.args.self.now.rest.now c.passes.new.self.rest.now _ c.passes.result same seen passed c.in_ok-passes_processors.ensures.lines differs

pub returns-clause-lines : goal.returns-clause-lines
returns-clause-lines c =
    let same = c.in_ok-passes_processors.field-0 in
    let passed : c.passes.result ≡ true = elim (cases_Bool c.passes.result) [
      | inl good ↦ good
      | inr bad ↦ absurd (let wrong = rw bad at c.if-not-passes.false in cc)
    ] in
    let passed_on : same ≡ true = elim (cases_Bool same) [
      | inl good ↦ good
      | inr bad ↦ absurd (let wrong = rw bad at c.if-not-branch.false in cc)
    ] in
    let seen = rw (c.as_bytes.ensures.value, c.in_ok-heading.ensures.ok) at c.passes.ensures.line in
    phase-same (heading c.args.number) (processors_lines 0 c.args.carried.now) (end_lines c.args.whole c.args.barrier) c.args.self.now.rest.now c.passes.new.self.rest.now c.passes_processors.new.self.rest.now c.passes.result same _ seen passed c.in_ok-passes_processors.ensures.lines passed_on c.passes_end.ensures.lines
