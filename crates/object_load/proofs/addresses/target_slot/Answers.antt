use Rattle.std.proofs.Common.{arith}
use Rattle.std.proofs.lemmas.Int.{ints}
use Rattle.object_load.specs.Linking.{target_slot}
use Rattle.object_load.proofs.addresses.target_slot.Goals as goal

pub returns : goal.returns
unfolding target_slot
returns c = omega (arith, ints)
