use Rattle.std.proofs.Common.{arith}
use Rattle.object_load.specs.Code.{decoded, too_long}
use Rattle.object_load.proofs.drafts.read_insns.Goals as goal

pub returns-then-bytes-gt-MOST_BYTES-clause-insns : goal.returns-then-bytes-gt-MOST_BYTES-clause-insns
returns-then-bytes-gt-MOST_BYTES-clause-insns c = too_long (omega arith)

pub returns-in-Ok-clause-insns : goal.returns-in-Ok-clause-insns
returns-in-Ok-clause-insns c = decoded (omega arith) c.in-Ok.ensures.exact

pub returns-in-Err-BadInsn-clause-insns : goal.returns-in-Err-BadInsn-clause-insns
returns-in-Err-BadInsn-clause-insns c = decoded (omega arith) (rw c.in-Err-BadInsn.field-0-is at c.in-Err-BadInsn.ensures.exact)
