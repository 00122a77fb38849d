use Rattle.std.proofs.Common.{◌≡◌, ◌<◌, ◌≤◌, length, arith}
use Rattle.xdp_tool.proofs.LegalFronts.{push-as, set-as}
use Rattle.xdp_tool.proofs.fronts.pass_lasts.Goals.{then-place-len, else-place-len+in_ok-push}
use Rattle.xdp_tool.proofs.fronts.pass_lasts.Goals as goal

pub loop-place-preserved : goal.loop-place-preserved
loop-place-preserved c =
    let xs = c.args.lasts.now in
    let css = c.args.counts.now in
    let k = c.loop-place.place in
    let before = c.loop-place.lasts in
    elim c.if-place-len.branch [
      | then-place-len w ↦
          let below : k < length before = omega (arith, w.if-place-len.true, c.len.ensures) in
          rw w.lasts-is (set-as xs css k c.at-counts.result.now before _ w.at.result.now w.last_of.result c.loop-place.invariant c.at-counts.ensures below w.at.ensures w.last_of.ensures w.set.ensures)
      | else-place-len+in_ok-push w ↦
          let past : length before ≤ k = omega (arith, w.if-place-len.false, c.len.ensures) in
          rw w.lasts-is (push-as xs css k c.at-counts.result.now before _ w.last_of-else-place-len.result c.loop-place.invariant c.at-counts.ensures past w.last_of-else-place-len.ensures w.in_ok-push.ensures.ok)
    ]
