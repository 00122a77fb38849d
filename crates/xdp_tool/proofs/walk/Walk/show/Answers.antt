use Rattle.std.proofs.Common.{Some, ◌≡◌, length, refl, ap, ◌∙◌}
use Rattle.script_text.specs.declared.outcome.Outcome.TheVariants as outcome
use Rattle.xdp_tool.specs.declared.item.Item.{Item}
use Rattle.xdp_tool.proofs.Walking.{count-is, refused-push, rising-push}
use Rattle.xdp_tool.proofs.walk.Walk.show.Goals as goal

pub returns-clause-goes : goal.returns-clause-goes
returns-clause-goes c = λ begun phase at same.
    let published = phase.work.published in
    let number : c.count.result ≡ length published = count-is published c.count.result at.taken (c.count.ensures ∙ ap (λ b. b.count) same) in
    let item : Item = record { line = c.args.line; outcome = outcome.Shown; count = length published; table = Some c.args.table } in (
      refl,
      record {
        items = rw (c.in_ok-push.ensures.items, at.items, number) refl;
        published = at.published;
        hand_ins = at.hand_ins;
        packets = at.packets;
        refused = refused-push begun.refused phase.items item _ at.refused refl;
        taken = at.taken;
        rising = rising-push (length begun.published) phase.items (length published) item refl at.rising;
        steady = at.steady;
        processors = at.processors;
        open_still = at.open_still;
      },
    )
