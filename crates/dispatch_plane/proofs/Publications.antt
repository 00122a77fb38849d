-- What a publication makes of the copy that ports see.
use Rattle.std.proofs.Common.{◌≡◌, true, List, [], ◌∷◌, ◌++◌, length, fold, refl, ap, sym, ◌∙◌, subst, Some}
use mathlib.Core.List.{IsPrefix}
use base.Growing.{prefix_refl}
use Rattle.xdp_state.specs.Book.{Book, empty, after, applied, takes, AllTaken}
use Rattle.xdp_state.specs.declared.change.Change.{Change}
use Rattle.xdp_state.proofs.Counts.{after_more, taken_more, count_after}
use Rattle.dispatch_plane.specs.History.{committed, shown}
use Rattle.dispatch_plane.specs.Known.{Known}
use Rattle.dispatch_plane.specs.Published.{absorbed}
use Rattle.dispatch_plane.specs.Trace.{Trace}
use Rattle.dispatch_plane.specs.View.{IsWhole, Follows}
use Rattle.dispatch_plane.specs.declared.entry.Entry.{Entry}
use Rattle.dispatch_plane.specs.declared.entry.Entry.TheVariants.{Draft}
use Rattle.dispatch_plane.specs.declared.published.Published.{Published}
use Rattle.dispatch_plane.specs.declared.published.Publication.{Publication}
use Rattle.dispatch_plane.proofs.Histories.{shown-draft, shown_none}

-- before the first entry
pub whole_none : (copy : Published) → copy.state ≡ empty → copy.front.log ≡ [] → IsWhole copy
whole_none copy state none =
    let nothing : shown copy.front.log ≡ [] = shown_none copy.front.log none in
    record { state = state ∙ sym (ap after nothing); taken = subst AllTaken (sym nothing) refl }

pub follows_itself : (copy : Published) → IsWhole copy → Follows copy copy
follows_itself copy whole = record { whole = whole; shown = prefix_refl (shown copy.front.log); plane = refl }

abbrev pub drafted : Trace → Change → Trace
drafted front change = record front { log = front.log ++ Draft change ∷ [] }

abbrev pub publication_of : Trace → Change → Publication
publication_of front change = record { change = change; front = drafted front change }

-- The copy that shows all that is committed, with the draft's change.
pub follows_drafted : (copy : Published) (front : Trace) (change : Change) → IsWhole copy → copy.front.plane ≡ front.plane → shown copy.front.log ≡ committed front.log
    → takes (after (committed front.log)) change ≡ true → Follows copy (absorbed copy (publication_of front change))
follows_drafted copy front change whole plane same taken =
    let more : shown (front.log ++ Draft change ∷ []) ≡ committed front.log ++ change ∷ [] = shown-draft front.log change in
    let before : copy.state ≡ after (committed front.log) = whole.state ∙ ap after same in
    let state : applied copy.state change ≡ after (shown (front.log ++ Draft change ∷ [])) =
    ap (λ (book : Book). applied book change) before ∙ (sym (after_more (committed front.log) change) ∙ sym (ap after more)) in
    let all : AllTaken (committed front.log ++ change ∷ []) = taken_more (committed front.log) change (subst AllTaken same whole.taken) taken in
    record {
      whole = record { state = state; taken = subst AllTaken (sym more) all };
      shown = (change ∷ [], ap (λ (changes : List Change). changes ++ change ∷ []) same ∙ sym more);
      plane = sym plane;
    }

-- The count of a copy that shows all that is committed.
pub count_shown : (copy : Published) (log : List Entry) → IsWhole copy → shown copy.front.log ≡ committed log → copy.state.count ≡ length (committed log)
count_shown copy log whole same = ap (λ (book : Book). book.count) whole.state ∙ (count_after (shown copy.front.log) whole.taken ∙ ap length same)

-- One publication that waits is absorbed alone.
pub absorbed_one : (now copy : Published) (waiting : List Publication) (publication : Publication) → copy ≡ now → waiting ≡ publication ∷ [] → fold absorbed copy waiting ≡ absorbed now publication
absorbed_one now copy waiting publication same one =
    ap (λ (more : List Publication). fold absorbed copy more) one ∙ ap (λ (c : Published). absorbed c publication) same

pub follows_one : (now copy : Published) (waiting : List Publication) (publication : Publication) → copy ≡ now → waiting ≡ publication ∷ [] → Follows now (absorbed now publication) → Follows copy (fold absorbed copy waiting)
follows_one now copy waiting publication same one follows =
    let before : Follows copy (absorbed now publication) = subst (λ (c : Published). Follows c (absorbed now publication)) (sym same) follows in
    subst (λ (c : Published). Follows copy c) (sym (absorbed_one now copy waiting publication same one)) before

pub same_known : (one other : Known) → one.plane ≡ other.plane → one.changes ≡ other.changes → one ≡ other
same_known one other plane changes = λ i. record { plane = plane i; changes = changes i }
