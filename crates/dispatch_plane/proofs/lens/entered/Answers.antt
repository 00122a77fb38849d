use Rattle.std.proofs.Common.{◌≡◌, refl, ap, sym, ◌∙◌, subst}
use mathlib.Core.List.{IsPrefix}
use Rattle.dispatch_plane.specs.History.{committed, shown}
use Rattle.dispatch_plane.specs.Lens.{Found, IsSeated}
use Rattle.dispatch_plane.specs.Trace.{Trace}
use Rattle.dispatch_plane.specs.declared.lens.Stand.TheVariants.{Inside, Outside}
use Rattle.dispatch_plane.specs.declared.published.Published.{Published}
use Rattle.dispatch_plane.specs.declared.view.View.{View}
use Rattle.dispatch_plane.proofs.Looks.{seated_inside, sees_last, sees_plane, still_seated}
use Rattle.dispatch_plane.proofs.Views.{sees}
use Rattle.dispatch_plane.proofs.lens.entered.Goals as goal

pub enter_as-requires : goal.enter_as-requires
enter_as-requires c copy = sees _ _ copy

pub returns-then-reaches-clause-found : goal.returns-then-reaches-clause-found
returns-then-reaches-clause-found c =
    let is : c.again-front.result ≡ c.in-Ok.reading.part.value.front = c.again-front.ensures ∙ ap (λ (copy : Published). copy.front) c.get.ensures in
    subst (λ (front : Trace). Found c.args.told.now (Outside c.args.reader) front (Inside c.in-Ok.reading)) (sym is) (record {
      inside = refl;
      reader = refl;
      kept = refl;
      stands = (seated_inside _ _ _ _ c.in-Ok.ensures.1 c.requires, refl, c.in-Ok.ensures.1.whole);
      seen = λ last seated. sees_last _ _ _ last c.in-Ok.ensures.1 seated;
      told = subst (λ (front : Trace). IsPrefix (committed c.args.told.now.log) (shown front.log)) is (c.reaches.ensures c.if-reaches.true);
      plane = sees_plane _ _ _ _ c.in-Ok.ensures.1 c.requires;
    })

pub returns-else-reaches-clause-missed : goal.returns-else-reaches-clause-missed
returns-else-reaches-clause-missed c = record {
  outside = refl;
  reader = refl;
  stands = λ last seated. subst (λ (view : View). IsSeated view last) (sym c.leave.ensures.1) (still_seated _ _ _ last c.in-Ok.ensures.1 seated);
}
