use Rattle.std.proofs.Common.{◌≡◌, ◌<◌, ◌∙◌, sym, ap, true, false, [], get_or, length, refl, arith}
use Rattle.xdp_state.specs.declared.packet.HandIn.{HandIn}
use Rattle.xdp_tool.proofs.LegalFronts.{front-legal, front-stop}
use Rattle.xdp_tool.specs.Replay.{is_legal}
use Rattle.xdp_tool.proofs.fronts.front_of.Goals.{then-loop-place-test+then-place-counts+else-is_legal, then-loop-place-test+else-place-counts, else-loop-place-test}
use Rattle.xdp_tool.proofs.fronts.front_of.Goals as goal

pub loop-place-preserved : goal.loop-place-preserved
loop-place-preserved c =
    let k = c.loop-place.place in
    let hs = c.args.hand_ins.now in
    let counts = c.args.counts.now in
    let below : k < length hs = omega arith in
    let under : k < length counts = omega arith in
    rw c.in_ok-push.ensures.ok (front-legal k c.loop-place.last c.args.published hs counts c.loop-place.front _ c.index-hand_ins-place.result (get_or counts k 0) _ below under c.index-hand_ins-place.is refl (ap (λ (h : HandIn). is_legal c.loop-place.last h.need c.args.published (get_or counts k 0)) c.index-hand_ins-place.is ∙ (sym c.is_legal.ensures ∙ c.if-is_legal.true)) c.loop-place.invariant)

pub returns : goal.returns
returns c = elim c.loop-place-test.branch [
  | then-loop-place-test+then-place-counts+else-is_legal w ↦
      front-stop c.loop-place.place c.loop-place.last c.args.published c.args.hand_ins.now c.args.counts.now c.loop-place.front w.index-hand_ins-place.result _
      (λ below under. sym w.is_legal.ensures ∙ w.if-is_legal.false) c.loop-place.invariant
  | then-loop-place-test+else-place-counts w ↦
      front-stop c.loop-place.place c.loop-place.last c.args.published c.args.hand_ins.now c.args.counts.now c.loop-place.front (record { packet = record { id = 0; timestamp = 0; frame = [] }; need = 0 }) _
      (λ below under. absurd (omega (arith, w.if-place-counts.false, under))) c.loop-place.invariant
  | else-loop-place-test w ↦
      front-stop c.loop-place.place c.loop-place.last c.args.published c.args.hand_ins.now c.args.counts.now c.loop-place.front (record { packet = record { id = 0; timestamp = 0; frame = [] }; need = 0 }) _
      (λ below under. absurd (omega (arith, w.loop-place-test.false, below))) c.loop-place.invariant
]
