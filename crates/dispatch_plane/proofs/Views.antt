-- The steps of the plane keep its rule.
use Rattle.std.proofs.Common.{◌≡◌, ◌≢◌, ℕ, List, [], ◌∷◌, ◌++◌, set, refl, sym, ◌∙◌, subst, Some, None, ⊎_elim}
use base.Growing.{prefix_refl, prefix_trans}
use mathlib.Core.List.{IsPrefix}
use mathlib.Core.Option.{some}
use lib.ListN.{get_elem?}
use Rattle.logbook.specs.Pages.{Book as Plane}
use Rattle.atomic_table.proofs.Lists.{at_set, at_snoc}
use Rattle.left_right.specs.Register.{Admits, TurnsAt, Forks, Merges}
use Rattle.dispatch_plane.specs.History.{shown}
use Rattle.dispatch_plane.specs.View.{Fits, IsWhole, Keeps, newcomer, Sees, Publishes, Introduces, Follows, introduced}
use Rattle.dispatch_plane.specs.declared.published.Published.{Published}
use Rattle.dispatch_plane.specs.declared.view.View.{View}

newcomer_fits : (copy : Published) → Fits copy newcomer
newcomer_fits copy = record { seen = (shown copy.front.log, refl); plane = λ plane is. absurd (cc is) }

-- a seat's view is another that fits
keeps-set : (copy : Published) (views : List View) (seat : ℕ) (view : View) → Keeps copy views → Fits copy view → Keeps copy (set views seat view)
keeps-set copy views seat view keeps fits = record {
  whole = keeps.whole;
  each = λ other there at. ⊎_elim
      (λ (same : (other ≡ seat) × (view ≡ there)). subst (Fits copy) same.1 fits)
      (λ (apart : (other ≢ seat) × (get_elem? views other ≡ some there)). keeps.each other there apart.1)
      (at_set views seat other view there at);
}

keeps-snoc : (copy : Published) (views : List View) (view : View) → Keeps copy views → Fits copy view → Keeps copy (views ++ view ∷ [])
keeps-snoc copy views view keeps fits = record {
  whole = keeps.whole;
  each = λ seat there at. ⊎_elim (keeps.each seat there) (λ (same : view ≡ there). subst (Fits copy) same fits) (at_snoc views view there seat at);
}

fits-next : (copy next : Published) (view : View) → Follows copy next → Fits copy view → Fits next view
fits-next copy next view follows fits = record {
  seen = prefix_trans view.seen (shown copy.front.log) (shown next.front.log) fits.seen follows.shown;
  plane = λ plane is. follows.plane ∙ fits.plane plane is;
}

keeps-next : (copy next : Published) (views : List View) → Follows copy next → Keeps copy views → Keeps next views
keeps-next copy next views follows keeps = record { whole = follows.whole; each = λ seat view at. fits-next copy next view follows (keeps.each seat view at) }

-- a new seat may come at any time
pub admits : Admits Keeps newcomer
admits copy views keeps = keeps-snoc copy views newcomer keeps (newcomer_fits copy)

seen_all : (copy : Published) (before : View) → Fits copy before → Fits copy (record before { seen = shown copy.front.log })
seen_all copy before fits = record { seen = prefix_refl (shown copy.front.log); plane = fits.plane }

pub sees : (seat : ℕ) (before : View) (copy : Published) → TurnsAt Keeps seat before copy copy Sees
sees seat before copy views keeps at =
    let fits = keeps.each seat before at in (
      record before { seen = shown copy.front.log },
      keeps-set copy views seat (record before { seen = shown copy.front.log }) keeps (seen_all copy before fits),
      record { whole = keeps.whole; fits = fits; seen = refl },
    )

pub publishes : (seat : ℕ) (before : View) (copy next : Published) → Follows copy next → TurnsAt Keeps seat before copy next Publishes
publishes seat before copy next follows views keeps at =
    let fits = fits-next copy next before follows (keeps.each seat before at) in (
      before,
      keeps-set next views seat before (keeps-next copy next views follows keeps) fits,
      refl,
    )

told_plane : (next : Published) (view : View) → Fits next view → Fits next (record view { plane = Some next.front.plane })
told_plane next view fits = record { seen = fits.seen; plane = λ plane is. cc is }

pub introduces : (seat : ℕ) (before : View) (copy next : Published) → Follows copy next → TurnsAt Keeps seat before copy next Introduces
introduces seat before copy next follows views keeps at =
    let fits = fits-next copy next before follows (keeps.each seat before at) in (
      record before { plane = Some next.front.plane },
      keeps-set next views seat (record before { plane = Some next.front.plane }) (keeps-next copy next views follows keeps) (told_plane next before fits),
      refl,
    )

-- the publisher's view is told
pub forks : (seat : ℕ) (view : View) → Forks Keeps seat view view view
forks seat view copy views keeps at =
    let fits = keeps.each seat view at in
    keeps-snoc copy (set views seat view) view (keeps-set copy views seat view keeps fits) fits

-- a seat is told another's plane
pub merges : (seat : ℕ) (view : View) (other : ℕ) (told : View) → Merges Keeps seat view other told (introduced view told) newcomer
merges seat view other told copy views keeps at apart there =
    let mine = keeps.each seat view at in
    let theirs : Fits copy told = ⊎_elim
    (λ (same : (other ≡ seat) × (introduced view told ≡ told)). absurd (apart same.0))
    (λ (found : (other ≢ seat) × (get_elem? views other ≡ some told)). keeps.each other told found.1)
    (at_set views seat other (introduced view told) told there) in
    let both : Fits copy (introduced view told) = record { seen = mine.seen; plane = theirs.plane } in
    keeps-set copy (set views seat (introduced view told)) other newcomer (keeps-set copy views seat (introduced view told) keeps both) (newcomer_fits copy)

-- the publisher is the first seat
pub keeps_first : (copy : Published) → IsWhole copy → Keeps copy (newcomer ∷ [])
keeps_first copy whole = keeps-snoc copy [] newcomer (record { whole = whole; each = λ seat view at. absurd (cc at) }) (newcomer_fits copy)
