-- Where a name stands.
use Rattle.std.proofs.Common.{◌≡◌, ◌<◌, ℕ, List, length, Some}
use Rattle.std.specs.Prelude.{position}
use Rattle.std.specs.Str.{bytes_eq}
use Rattle.std.proofs.lemmas.List.Quantifiers.{position-Some}

-- a place that was found is a place of the list
pub found_within : (name : List ℕ) (objects : List (List ℕ)) (place : ℕ) → position (λ object. bytes_eq object name) objects ≡ Some place → place < length objects
found_within name objects place is = (position-Some (λ object. bytes_eq object name) objects place name is).0

pub ruleset placed = (found_within)
