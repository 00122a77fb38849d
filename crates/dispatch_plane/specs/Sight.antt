-- What a port stands for, and what its calls change.
use Rattle.std.specs.Prelude.{◌≡◌, ℕ, ◌+◌, ◌-◌, ◌^◌, min, Bool, true, false, List, []}
use mathlib.Core.List.{IsPrefix}
use Rattle.logbook.specs.Pages.{Book as Plane}
use Rattle.xdp_state.specs.declared.change.Change.{Change}

pub record Sight : Type 0 where
  -- which plane it is of
  pub plane : Plane
  -- the changes that it saw
  pub seen : List Change
  -- the changes that it was told of
  pub told : List Change
  pub inside : Bool
  -- whether it has a reader; a port without one never has a view
  pub seated : Bool
  -- how often no view was given
  pub misses : ℕ

-- a look gave a view: it shows all that was seen and told before
pub record Looked (before after : Sight) : Type 0 where
  pub seen : IsPrefix before.seen after.seen
  pub told : IsPrefix before.told after.seen
  pub seated : before.seated ≡ true
  pub same : after ≡ record before { seen = after.seen; inside = true }

-- a look gave none: one miss more is counted, up to the last value
abbrev pub Missed : Sight → Sight → Type 0
Missed before after = after ≡ record before { misses = min (before.misses + 1) (2 ^ 64 - 1) }

-- the port was told of these changes, and forgot none
pub record Learnt (changes : List Change) (before after : Sight) : Type 0 where
  pub kept : IsPrefix before.told after.told
  pub learnt : IsPrefix changes after.told
  pub same : after ≡ record before { told = after.told }

-- a port that is outside, and has seen and was told nothing
abbrev pub fresh : Plane → Sight
fresh plane = record { plane = plane; seen = []; told = []; inside = false; seated = true; misses = 0 }

-- a port without a reader
abbrev pub hollow : Plane → Sight
hollow plane = record (fresh plane) { seated = false }

-- the port is of this plane, and outside
abbrev pub Joins : Plane → Sight → Type 0
Joins plane port = (port.plane ≡ plane) × (port.inside ≡ false)

-- what the port saw, and was told of, is a beginning of these changes
abbrev pub Ends : List Change → Sight → Type 0
Ends changes port = IsPrefix port.seen changes × IsPrefix port.told changes
