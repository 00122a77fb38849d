use Rattle.object_load.specs.Load.{Loads}
use Rattle.object_load.proofs.OneAnswer.{gives_only, loads-unique}
use Rattle.object_load.proofs.load.programs_of.Goals as goal

pub returns-clause-only : goal.returns-clause-only
returns-clause-only c answer says =
    gives_only (Loads c.args.bytes.now) (loads-unique c.args.bytes.now) c.load_object.result c.load_object.ensures.programs answer says
