use Rattle.std.proofs.Common.{arith}
use Rattle.map_store.proofs.Start.{is_taken-replicate}
use Rattle.map_store.proofs.occupancy.slot_numbers.Goals as goal

pub returns-clause-numbers : goal.returns-clause-numbers
returns-clause-numbers c = λ place below. rw (is_taken-replicate c.args.slots place c.args.is_taken below) (c.loop-place.invariant.numbers place (omega arith))
