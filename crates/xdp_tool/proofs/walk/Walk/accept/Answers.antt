use Rattle.std.proofs.Common.{None, ◌≡◌, ◌+◌, [], ◌∷◌, ◌++◌, length, length-append, append_assoc, refl, ap, ◌∙◌, arith, true}
use Rattle.script_text.specs.declared.outcome.Outcome.TheVariants as outcome
use Rattle.xdp_state.proofs.Counts.{taken_more}
use Rattle.xdp_state.specs.Book.{after, takes}
use Rattle.xdp_tool.specs.declared.item.Item.{Item}
use Rattle.xdp_tool.proofs.Walking.{count-is, refused-push, rising-higher, rising-push, steady-higher}
use Rattle.xdp_tool.proofs.walk.Walk.accept.Goals as goal

pub returns-clause-goes : goal.returns-clause-goes
returns-clause-goes c = λ table begun phase at same.
    let published = phase.work.published in
    let change = c.args.change in
    let n = length (published ++ change ∷ []) in
    let len : n ≡ length published + 1 = length-append published (change ∷ []) ∙ omega arith in
    let number : c.count-count.result ≡ length published = count-is published c.count-count.result at.taken (c.count-count.ensures ∙ ap (λ b. b.count) same) in
    let item : Item = record { line = c.args.line; outcome = outcome.Ok (length published + 1); count = n; table = None } in (
      refl,
      record {
        items = rw (c.in_ok-push.ensures.items, at.items, number, len) refl;
        published = rw (c.push_reserved.ensures.items, c.in_ok-reserve.ensures.items, at.published) (append_assoc begun.published _ _);
        hand_ins = at.hand_ins;
        packets = at.packets;
        refused = refused-push begun.refused phase.items item _ at.refused refl;
        taken = let taken : takes (after published) change ≡ true = rw (← same) c.requires.taken in taken_more published change at.taken taken;
        rising = rising-push (length begun.published) phase.items n item refl (rising-higher (length begun.published) phase.items (length published) n (omega (arith, len)) at.rising);
        steady = steady-higher (length begun.published) (length published) n phase.work.hand_ins (omega (arith, len)) at.steady;
        processors = at.processors;
        open_still = at.open_still;
      },
    )
