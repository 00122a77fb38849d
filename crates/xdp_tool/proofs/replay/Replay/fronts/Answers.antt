use Rattle.std.proofs.Common.{◌≡◌, ◌≤◌, [], length, arith, ◌∙◌}
use Rattle.std.specs.Prelude.{slice_index_or}
use Rattle.xdp_tool.proofs.LegalFronts.{index-is, index-none}
use Rattle.xdp_tool.proofs.replay.Replay.fronts.Goals.{then-number-len, else-number-len}
use Rattle.xdp_tool.proofs.replay.Replay.fronts.Goals as goal

pub returns-clause-counts : goal.returns-clause-counts
returns-clause-counts c =
    let choices = c.args.self.now.trace.now.choices in
    let has : c.if-number-len.counts.now ≡ slice_index_or choices c.args.number [] = elim c.if-number-len.branch [
      | then-number-len w ↦ rw w.counts-is (w.as_slice-counts.ensures ∙ index-is choices c.args.number w.at.result.now w.at.ensures)
      | else-number-len w ↦
          let past : length choices ≤ c.args.number = omega (arith, w.if-number-len.false, c.len.ensures) in
          rw w.counts-is (index-none choices c.args.number past)
    ] in
    rw (c.as_slice.ensures, has) at c.fronts_of.ensures.counts
