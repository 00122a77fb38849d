-- The rule over the published copy and over what each seat of the plane knows.
use Rattle.std.specs.Prelude.{◌≡◌, ℕ, List, [], Some, None}
use mathlib.Core.List.{IsPrefix}
use mathlib.Core.Option.{some}
use lib.ListN.{get_elem?}
use Rattle.logbook.specs.Pages.{Book as Plane}
use Rattle.xdp_state.specs.Book.{after, AllTaken}
use Rattle.dispatch_plane.specs.History.{shown}
use Rattle.dispatch_plane.specs.declared.published.Published.{Published}
use Rattle.dispatch_plane.specs.declared.view.View.{View}

-- the state after the changes that the copy shows, each of which was taken
pub record IsWhole (copy : Published) : Type 0 where
  pub state : copy.state ≡ after (shown copy.front.log)
  pub taken : AllTaken (shown copy.front.log)

-- the copy shows all that the seat saw, and is of the seat's plane
pub record Fits (copy : Published) (view : View) : Type 0 where
  pub seen : IsPrefix view.seen (shown copy.front.log)
  pub plane : (plane : Plane) → view.plane ≡ Some plane → copy.front.plane ≡ plane

pub record Keeps (copy : Published) (views : List View) : Type 0 where
  pub whole : IsWhole copy
  pub each : (seat : ℕ) (view : View) → get_elem? views seat ≡ some view → Fits copy view

-- a seat that has seen nothing, and knows of no plane
abbrev pub newcomer : View
newcomer = record { seen = []; plane = None }

-- what a look tells: the seat has then seen what the copy shows
pub record Sees (before : View) (copy next : Published) (after : View) : Type 0 where
  pub whole : IsWhole next
  pub fits : Fits next before
  pub seen : after ≡ record before { seen = shown next.front.log }

-- what a publication tells its publisher: nothing
abbrev pub Publishes : View → Published → Published → View → Type 0
Publishes before copy next after = after ≡ before

-- what the first publication tells: which plane it is
abbrev pub Introduces : View → Published → Published → View → Type 0
Introduces before copy next after = after ≡ record before { plane = Some next.front.plane }

-- the next copy shows all that the copy showed, in the same plane
pub record Follows (copy next : Published) : Type 0 where
  pub whole : IsWhole next
  pub shown : IsPrefix (shown copy.front.log) (shown next.front.log)
  pub plane : next.front.plane ≡ copy.front.plane

-- the seat's view once it was told another's plane
abbrev pub introduced : View → View → View
introduced view other = record view { plane = other.plane }
