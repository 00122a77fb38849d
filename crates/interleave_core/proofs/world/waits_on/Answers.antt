use Rattle.std.proofs.Common.{◌∙◌}
use Rattle.interleave_core.proofs.Lanes.{waits_at-get}
use Rattle.interleave_core.proofs.world.waits_on.Goals as goal

pub returns : goal.returns
returns c = c.waits.ensures ∙ waits_at-get c.args.processor c.args.lanes.now c.index-lanes-processor.result c.requires c.index-lanes-processor.is
