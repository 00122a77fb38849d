-- What a read in memory can take at a place.
use Rattle.std.specs.Prelude.{◌≡◌, ℕ, ◌+◌, ◌≤◌, ◌==◌, Bool, false, List, [], length, take, Option, Some, None, IfSome, Result, Ok, Err}

-- the front of the rest, with nothing only at its end
pub record IsFrontOf (piece rest : List ℕ) : Type 0 where
  pub front : piece ≡ take (length piece) rest
  pub some : piece ≡ [] → rest ≡ []

-- whether the place is the bad one, at which a read fails
abbrev pub is_bad : Option ℕ → ℕ → Bool
is_bad (Some bad) place = bad == place
is_bad None place = false

-- a read from this place doesn't pass the bad one
abbrev pub StopsAt : {E : Type 0} → Option ℕ → ℕ → Result ℕ E → Type 0
StopsAt bad_place place (Ok n) = IfSome bad_place (λ bad. place ≤ bad → place + n ≤ bad)
StopsAt bad_place place (Err _) = Unit {0}

-- the place after a read
abbrev pub place_after : {E : Type 0} → ℕ → Result ℕ E → ℕ
place_after place (Ok n) = place + n
place_after place (Err _) = place
