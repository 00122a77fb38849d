use Rattle.dump_capture.proofs.Putting.{fault-cause}
use Rattle.dump_capture.proofs.capture.write_block.Goals as goal

pub returns-in-Err-clause-cause : goal.returns-in-Err-clause-cause
returns-in-Err-clause-cause g c = fault-cause _ _ _ c.in-Err.ensures.cause.later c.in-Err.ensures.cause.failed
