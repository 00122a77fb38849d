use Rattle.std.proofs.Common.{◌≡◌, ◌++◌, length, sym, ap, ◌∙◌}
use Rattle.xdp_state.specs.Work.{all_needs}
use Rattle.xdp_tool.proofs.Due.{due-steady}
use Rattle.xdp_tool.proofs.counts.carry_at_hand_in.Goals as goal

pub returns-clause-counts : goal.returns-clause-counts
returns-clause-counts c = c.in_ok-counts.ensures ∙ ap all_needs c.as_slice-hand_ins.ensures.value

pub returns-clause-carries : goal.returns-clause-carries
returns-clause-carries c = λ begun standings phase at stands same.
    let hand_ins : c.as_slice-hand_ins.result.now ≡ phase.work.hand_ins = c.as_slice-hand_ins.ensures.value ∙ at.hand_ins in
    let counts : c.in_ok-counts.counts ≡ all_needs phase.work.hand_ins = c.in_ok-counts.ensures ∙ ap all_needs hand_ins in
    let whole : begun.published ++ c.as_slice.result.now ≡ phase.work.published = ap (λ xs. begun.published ++ xs) c.as_slice.ensures.value ∙ sym at.published in
    let carries = rw (whole, hand_ins, counts) at (c.in_ok-carried.ensures begun.published standings stands) in
    rw counts (carries at.taken (due-steady (length begun.published) (length phase.work.published) standings phase.work.hand_ins same at.steady))
