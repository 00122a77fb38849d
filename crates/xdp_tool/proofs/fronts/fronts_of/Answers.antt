use Rattle.std.proofs.Common.{◌≡◌, ◌<◌, ◌+◌, ◌==◌, ◌&&◌, [], ◌∷◌, length, length-append, refl, sym, ap, ◌∙◌, arith}
use Rattle.std.proofs.lemmas.List.{length-map}
use Rattle.xdp_state.specs.Work.{needs_of}
use Rattle.xdp_state.specs.declared.packet.HandIn.{HandIn}
use Rattle.xdp_tool.proofs.LegalFronts.{fronts-step, whole-more}
use Rattle.xdp_tool.proofs.fronts.fronts_of.Goals.{then-fronts, else-fronts}
use Rattle.xdp_tool.proofs.fronts.fronts_of.Goals as goal

pub loop-place-preserved : goal.loop-place-preserved
loop-place-preserved c =
    let inv = c.loop-place.invariant in
    let k = c.loop-place.place in
    let hss = c.args.hand_ins.now in
    let hs = c.index-hand_ins-place.result in
    let front = c.in_ok-front.front in
    let whole = c.loop-place.fronts.whole in
    let below : k < length hss = omega (arith, c.loop-place-test.true) in
    let many : length (needs_of hs) ≡ length c.as_slice-packets.result.now = length-map hs (λ (h : HandIn). h.need) ∙ ap length (sym c.as_slice-packets.ensures) in
    let taken = rw (c.last_at.ensures, c.counts_at.ensures, c.as_slice-packets.ensures) at c.in_ok-front.ensures in
    let now : c.if-fronts.fronts ≡ (whole && (length front == length (needs_of hs))) = elim c.if-fronts.branch [
      | then-fronts w ↦ rw (w.fronts-is, w.if-fronts.true, w.len.ensures, many) refl
      | else-fronts w ↦ rw (w.fronts-is, w.if-fronts.false) refl
    ] in
    record {
      counts = rw now (fronts-step whole k c.args.lasts.now c.args.published hss c.args.counts.now _ hs front c.loop-place.fronts.counts c.push.new.self _ below c.index-hand_ins-place.is taken c.in_ok-push.ensures.ok inv.counts);
      whole = whole-more whole c.if-fronts.fronts k hss _ hs front c.loop-place.fronts.counts c.push.new.self below c.index-hand_ins-place.is inv.many inv.whole now c.in_ok-push.ensures.ok;
      many = omega (arith, ap length c.in_ok-push.ensures.ok, length-append c.loop-place.fronts.counts (front ∷ []), inv.many);
    }
