use Rattle.std.proofs.Common.{◌≡◌, length, take, slice_index, sym, ap, ◌∙◌, arith}
use Rattle.std.proofs.lemmas.List.{nil_from_length}
use Rattle.interleave_core.proofs.Places.{on-no_counts}
use Rattle.interleave_core.specs.Legality.{illegal_on}
use Rattle.interleave_core.specs.Sound.{last_counts}
use Rattle.interleave_core.proofs.legality.broken_on.Goals as goal

pub returns-then-len-eq0 : goal.returns-then-len-eq0
returns-then-len-eq0 c =
    let none : length c.args.counts.now ≡ 0 = omega (arith, c.len.ensures, c.if-len-eq0.true) in
    sym (ap (λ cs. illegal_on c.args.phase c.args.processor 0 (slice_index (last_counts (take c.args.phase c.args.choices.now)) c.args.processor) c.args.published c.args.needs.now cs) (nil_from_length c.args.counts.now none)
    ∙ on-no_counts c.args.phase c.args.processor 0 (slice_index (last_counts (take c.args.phase c.args.choices.now)) c.args.processor) c.args.published c.args.needs.now)
