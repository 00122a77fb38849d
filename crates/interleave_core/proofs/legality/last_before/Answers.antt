use Rattle.std.proofs.Common.{◌≡◌, ◌+◌, ◌-◌, get_or, take, sym, ap, ◌∙◌, arith}
use Rattle.interleave_core.proofs.LastCounts.{last_counts-at, unwrap-past}
use Rattle.interleave_core.specs.Sound.{last_counts}
use Rattle.interleave_core.proofs.legality.last_before.Goals as goal

pub returns-in-Some : goal.returns-in-Some
returns-in-Some c =
    let next : c.loop-earlier.earlier - 1 + 1 ≡ c.loop-earlier.earlier = omega arith in
    c.in-Some.ensures (get_or (last_counts (take (c.loop-earlier.earlier - 1) c.args.choices.now)) c.args.processor 0)
    ∙ sym (last_counts-at c.args.choices.now (c.loop-earlier.earlier - 1) c.args.processor c.at.result.now c.at.ensures)
    ∙ ap (λ n. get_or (last_counts (take n c.args.choices.now)) c.args.processor 0) next
    ∙ sym c.loop-earlier.invariant.same

pub loop-earlier-preserved : goal.loop-earlier-preserved
loop-earlier-preserved c =
    let next : c.loop-earlier.earlier - 1 + 1 ≡ c.loop-earlier.earlier = omega arith in
    record {
      within = omega (arith, c.loop-earlier.invariant.within);
      same = c.loop-earlier.invariant.same
          ∙ ap (λ n. get_or (last_counts (take n c.args.choices.now)) c.args.processor 0) (sym next)
          ∙ last_counts-at c.args.choices.now (c.loop-earlier.earlier - 1) c.args.processor c.at.result.now c.at.ensures
          ∙ sym (c.last_in.ensures (get_or (last_counts (take (c.loop-earlier.earlier - 1) c.args.choices.now)) c.args.processor 0))
          ∙ unwrap-past c.last_in.result (get_or (last_counts (take (c.loop-earlier.earlier - 1) c.args.choices.now)) c.args.processor 0) c.in_default.not-Some;
    }
