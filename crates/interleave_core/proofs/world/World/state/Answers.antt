use Rattle.std.proofs.Common.{length, ap, ◌∙◌}
use Rattle.interleave_core.proofs.Worlds.{count-is}
use Rattle.interleave_core.specs.Moment.{Moment}
use Rattle.interleave_core.proofs.world.World.state.Goals as goal

pub returns-clause-count : goal.returns-clause-count
returns-clause-count c =
    count-is c.self.inside.state c.self.inside.changes.items c.self.invariant.state c.self.invariant.taken ∙ ap (λ (m : Moment). length m.published) c.self.view_is
