use Rattle.std.proofs.Common.{None, ◌≡◌, ◌+◌, length, refl, ap, ◌∙◌}
use Rattle.script_text.specs.declared.outcome.Outcome.TheVariants as outcome
use Rattle.xdp_tool.specs.Plan.{hand_in}
use Rattle.xdp_tool.specs.declared.item.Item.{Item}
use Rattle.xdp_tool.proofs.Walking.{count-is, length-handed, refused-push, rising-low, rising-push, steady-handed}
use Rattle.xdp_tool.proofs.walk.Walk.hand_in.Goals as goal

pub returns-clause-goes : goal.returns-clause-goes
returns-clause-goes c = λ begun phase at same.
    let published = phase.work.published in
    let number : c.count.result ≡ length published = count-is published c.count.result at.taken (c.count.ensures ∙ ap (λ b. b.count) same) in
    let number' : c.count-2.result ≡ length published = count-is published c.count-2.result at.taken (c.count-2.ensures ∙ ap (λ b. b.count) same) in
    let item : Item = record { line = c.args.line; outcome = outcome.Handed 1; count = length published; table = None } in
    let h = hand_in c.args.line c.args.frame.now phase in (
      refl,
      record {
        items = rw (c.push_reserved.ensures.items, c.in_ok-reserve.ensures.items, at.items, number') refl;
        published = at.published;
        hand_ins = rw (c.in_ok-add_hand_in.ensures.ok, c.in_ok-packet.ensures, at.hand_ins, number, at.packets) refl;
        packets = ap (λ n. n + 1) at.packets;
        refused = refused-push begun.refused phase.items item _ at.refused refl;
        taken = at.taken;
        rising = rising-push (length begun.published) phase.items (length published) item refl at.rising;
        steady = steady-handed (length begun.published) (length published) c.args.processor h phase.work.hand_ins (rising-low _ phase.items _ at.rising) refl at.steady;
        processors = length-handed c.args.processor h phase.work.hand_ins ∙ at.processors;
        open_still = at.open_still;
      },
    )
