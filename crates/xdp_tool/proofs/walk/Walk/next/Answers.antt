use Rattle.std.proofs.Common.{◌≡◌, ◌∷◌, ◌+◌, drop, ap, ◌∙◌}
use Rattle.std.proofs.lemmas.List.{drop_more}
use Rattle.std.proofs.lemmas.Option.{get_or_from_slice_get, slice_get_within}
use Rattle.script_text.specs.Handed.{has_flags, has_frame}
use Rattle.xdp_tool.proofs.Walking.{all-at}
use Rattle.xdp_tool.proofs.walk.Walk.next.Goals as goal

pub step-requires-clause-frame : goal.step-requires-clause-frame
step-requires-clause-frame c = all-at has_frame c.args.self.now.script.now.lines c.args.self.now.next c.at.result.now c.requires.script.frames c.at.ensures

pub step-requires-clause-flags : goal.step-requires-clause-flags
step-requires-clause-flags c = all-at has_flags c.args.self.now.script.now.lines c.args.self.now.next c.at.result.now c.requires.script.flags c.at.ensures

pub returns-clause-goes : goal.returns-clause-goes
returns-clause-goes c = λ begun phase at same.
    let script = c.args.self.now.script.now in
    let n = c.args.self.now.next in
    let line = c.at.result.now in
    let left : drop n script.lines ≡ line ∷ drop (n + 1) script.lines =
    drop_more script.lines n line (slice_get_within script.lines n line c.at.ensures) ∙ ap (λ l. l ∷ drop (n + 1) script.lines) (get_or_from_slice_get script.lines n line line c.at.ensures) in
    let goes = c.in_ok-turn.ensures.goes begun phase at same in
    rw left (
      goes.0,
      record {
        items = goes.1.items;
        published = goes.1.published;
        hand_ins = goes.1.hand_ins;
        packets = goes.1.packets;
        refused = goes.1.refused;
        taken = goes.1.taken;
        rising = goes.1.rising;
        steady = goes.1.steady;
        processors = goes.1.processors;
        open_still = goes.1.open_still;
      },
    )
