-- What a lens stands for, and what a look changes.
use Rattle.std.specs.Prelude.{◌≡◌, ℕ, ◌+◌, ◌-◌, ◌^◌, min, Bool, true}
use mathlib.Core.List.{IsPrefix}
use Rattle.dispatch_plane.specs.History.{committed, shown}
use Rattle.dispatch_plane.specs.Trace.{Trace}

pub record Glance : Type 0 where
  -- what the last view was made for
  pub seen : Trace
  pub inside : Bool
  -- whether it has a reader
  pub seated : Bool
  pub misses : ℕ

-- a view was given that shows all that was seen, and all that the notes have
pub record Looked (notes : Trace) (before after : Glance) : Type 0 where
  pub seen : IsPrefix (shown before.seen.log) (shown after.seen.log)
  pub told : IsPrefix (committed notes.log) (shown after.seen.log)
  pub plane : after.seen.plane ≡ before.seen.plane
  pub seated : before.seated ≡ true
  pub same : after ≡ record before { seen = after.seen; inside = true }

-- none was given: one miss more is counted, up to the last value
abbrev pub Missed : Glance → Glance → Type 0
Missed before after = after ≡ record before { misses = min (before.misses + 1) (2 ^ 64 - 1) }
