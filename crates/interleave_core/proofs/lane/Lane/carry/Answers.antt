use Rattle.std.proofs.Common.{ap, ◌∙◌}
use Rattle.interleave_core.proofs.Answered.{on_ok-then}
use Rattle.interleave_core.proofs.Lanes.{counted-more}
use Rattle.interleave_core.specs.Traffic.{with_count}
use Rattle.interleave_core.proofs.lane.Lane.carry.Goals as goal

pub returns-clause-ok : goal.returns-clause-ok
returns-clause-ok c =
    on_ok-then _ _ _ (λ more. counted-more c.self.inside.hand_ins c.self.inside.counts c.push.new.self c.args.count more ∙ ap (with_count c.args.count) c.self.view_is)
    c.push.ensures.ok
