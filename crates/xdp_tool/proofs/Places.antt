-- The place of an interface.
use Rattle.std.proofs.Common.{◌≡◌, ◌<◌, ℕ, List, length, Some, arith}
use Rattle.std.specs.Prelude.{position}
use Rattle.std.proofs.lemmas.Bool.Decides.{nat_tests}
use Rattle.xdp_state.specs.Interfaces.{has_name}
use Rattle.xdp_state.specs.declared.interface.Interface.{Interface}

-- a place that was found is a place of the list
pub found_within : (interfaces : List Interface) (name : List ℕ) (place : ℕ) → position (has_name name) interfaces ≡ Some place → place < length interfaces
found_within interfaces name place is = grind (arith, nat_tests, is)

pub ruleset placed = (found_within)
