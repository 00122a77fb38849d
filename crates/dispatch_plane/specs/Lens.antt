-- Where a port's reader stands, and how that goes with what the port saw last.
use Rattle.std.specs.Prelude.{◌≡◌, Bool, true, false, Some}
use mathlib.Core.List.{IsPrefix}
use Rattle.left_right.specs.Sides.{view}
use Rattle.logbook.specs.Pages.{Book as Plane}
use Rattle.dispatch_plane.specs.History.{committed, shown}
use Rattle.dispatch_plane.specs.Trace.{Trace}
use Rattle.dispatch_plane.specs.View.{IsWhole}
use Rattle.dispatch_plane.specs.declared.lens.Stand.{Stand}
use Rattle.dispatch_plane.specs.declared.lens.Stand.TheVariants.{Nowhere, Outside, Inside}
use Rattle.dispatch_plane.specs.declared.view.View.{View}

abbrev pub is_inside : Stand → Bool
is_inside Nowhere = false
is_inside (Outside reader) = false
is_inside (Inside reading) = true

abbrev pub has_reader : Stand → Bool
has_reader Nowhere = false
has_reader (Outside reader) = true
has_reader (Inside reading) = true

-- the seat has seen what the port saw, in the port's plane
pub record IsSeated (view : View) (last : Trace) : Type 0 where
  pub seen : IsPrefix (shown last.log) view.seen
  pub plane : view.plane ≡ Some last.plane

abbrev pub Stands : Stand → Trace → Type 0
Stands Nowhere last = Unit {0}
Stands (Outside reader) last = IsSeated (view reader.place) last
Stands (Inside reading) last = IsSeated (view reading.place) last × (reading.part.value.front ≡ last) × IsWhole reading.part.value

-- the reader, where there is one, is of this plane
abbrev pub IsOf : Stand → Plane → Type 0
IsOf Nowhere plane = Unit {0}
IsOf (Outside reader) plane = (view reader.place).plane ≡ Some plane
IsOf (Inside reading) plane = (view reading.place).plane ≡ Some plane

-- the reader went in, to a copy made for this front, which shows all that was seen and told
pub record Found (notes : Trace) (before : Stand) (front : Trace) (after : Stand) : Type 0 where
  pub inside : is_inside after ≡ true
  pub reader : has_reader before ≡ true
  pub kept : has_reader after ≡ true
  pub stands : Stands after front
  pub seen : (last : Trace) → Stands before last → IsPrefix (shown last.log) (shown front.log)
  pub told : IsPrefix (committed notes.log) (shown front.log)
  pub plane : front.plane ≡ notes.plane

-- the reader, where there is one, stands outside, whatever was seen
pub record Stays (before after : Stand) : Type 0 where
  pub outside : is_inside after ≡ false
  pub reader : has_reader after ≡ has_reader before
  pub stands : (last : Trace) → Stands before last → Stands after last
