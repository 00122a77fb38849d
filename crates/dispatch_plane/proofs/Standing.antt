-- The reader of a lens is of the plane of what it saw last.
use Rattle.std.proofs.Common.{◌≡◌, ap, sym, ◌∙◌, Some}
use Rattle.logbook.specs.Pages.{Book as Plane}
use Rattle.dispatch_plane.specs.Lens.{IsOf, Stands}
use Rattle.dispatch_plane.specs.Trace.{Trace}
use Rattle.dispatch_plane.specs.declared.lens.Stand.{Stand}
use Rattle.dispatch_plane.specs.declared.lens.Stand.TheVariants.{Nowhere, Outside, Inside}

pub stands_of : (stand : Stand) (last : Trace) (plane : Plane) → Stands stand last → plane ≡ last.plane → IsOf stand plane
stands_of Nowhere last plane stands same = tt
stands_of (Outside reader) last plane stands same = stands.plane ∙ ap (λ (p : Plane). Some p) (sym same)
stands_of (Inside reading) last plane stands same = stands.0.plane ∙ ap (λ (p : Plane). Some p) (sym same)
