-- What a look tells a seat that has seen a last view.
use Rattle.std.proofs.Common.{◌≡◌, refl, ap, sym, ◌∙◌, subst, Some, List}
use mathlib.Core.List.{IsPrefix}
use base.Growing.{prefix_refl, prefix_trans}
use Rattle.logbook.specs.Pages.{Book as Plane}
use Rattle.xdp_state.specs.declared.change.Change.{Change}
use Rattle.dispatch_plane.specs.History.{shown}
use Rattle.dispatch_plane.specs.Lens.{IsSeated}
use Rattle.dispatch_plane.specs.Trace.{Trace}
use Rattle.dispatch_plane.specs.View.{Sees}
use Rattle.dispatch_plane.specs.declared.published.Published.{Published}
use Rattle.dispatch_plane.specs.declared.view.View.{View}

pub sees_plane : (before after : View) (copy : Published) (plane : Plane) → Sees before copy copy after → before.plane ≡ Some plane → copy.front.plane ≡ plane
sees_plane before after copy plane sees is = sees.fits.plane plane is

pub sees_last : (before after : View) (copy : Published) (last : Trace) → Sees before copy copy after → IsSeated before last → IsPrefix (shown last.log) (shown copy.front.log)
sees_last before after copy last sees seated = prefix_trans (shown last.log) before.seen (shown copy.front.log) seated.seen sees.fits.seen

-- inside, the copy is what was seen last
pub seated_inside : (before after : View) (copy : Published) (plane : Plane) → Sees before copy copy after → before.plane ≡ Some plane → IsSeated after copy.front
seated_inside before after copy plane sees is =
    let all : after.seen ≡ shown copy.front.log = ap (λ (view : View). view.seen) sees.seen in
    let same : after.plane ≡ before.plane = ap (λ (view : View). view.plane) sees.seen in
    record {
      seen = subst (λ (changes : List Change). IsPrefix (shown copy.front.log) changes) (sym all) (prefix_refl (shown copy.front.log));
      plane = same ∙ (is ∙ sym (ap (λ (p : Plane). Some p) (sees.fits.plane plane is)));
    }

-- outside again, what was seen last stays
pub still_seated : (before after : View) (copy : Published) (last : Trace) → Sees before copy copy after → IsSeated before last → IsSeated after last
still_seated before after copy last sees seated =
    let all : after.seen ≡ shown copy.front.log = ap (λ (view : View). view.seen) sees.seen in
    let same : after.plane ≡ before.plane = ap (λ (view : View). view.plane) sees.seen in
    record {
      seen = subst (λ (changes : List Change). IsPrefix (shown last.log) changes) (sym all) (sees_last before after copy last sees seated);
      plane = same ∙ seated.plane;
    }
