use Rattle.std.proofs.Common.{◌≡◌, true, List, [], ◌∷◌, ◌++◌, length, drop, Some, ap, sym, ◌∙◌, subst}
use Rattle.left_right.specs.Sides.{view}
use Rattle.logbook.specs.Pages.{Book as Plane}
use Rattle.xdp_state.specs.Book.{after, takes}
use Rattle.xdp_state.specs.declared.change.Change.{Change}
use Rattle.dispatch_plane.specs.History.{committed, shown}
use Rattle.dispatch_plane.specs.Known.{Known}
use Rattle.dispatch_plane.specs.Published.{absorbed}
use Rattle.dispatch_plane.specs.Trace.{Trace}
use Rattle.dispatch_plane.specs.View.{Follows, IsWhole}
use Rattle.dispatch_plane.specs.declared.entry.Entry.TheVariants.{Draft, Commit}
use Rattle.dispatch_plane.specs.declared.published.Publication.{Publication}
use Rattle.dispatch_plane.specs.declared.published.Published.{Published}
use Rattle.dispatch_plane.specs.declared.view.View.{View}
use Rattle.dispatch_plane.proofs.Histories.{committed-draft, shown-draft}
use Rattle.dispatch_plane.proofs.Publications.{absorbed_one, count_shown, follows_drafted, follows_one, publication_of, same_known}
use Rattle.dispatch_plane.proofs.publisher.Publisher.publish.Goals as goal

abbrev plane_of : Trace → Plane
plane_of front = front.plane

abbrev changes_of : Trace → List Change
changes_of front = committed front.log

abbrev with_front : Change → Trace → Publication
with_front change front = record { change = change; front = front }

pub replace_with-requires : goal.replace_with-requires
replace_with-requires g c =
    let now = c.self.inside.writer.desk.shown.value in
    let front = c.self.inside.front in
    let change = c.args.change.now in
    let has = c.self.invariant in
    let taken : takes (after (committed front.log)) change ≡ true = subst (λ (k : Known). takes (after k.changes) change ≡ true) (sym c.self.view_is) c.requires in
    let appended : Publication = record { change = change; front = c.again.result } in
    let publication : appended ≡ publication_of front change = ap (with_front change) (c.again.ensures ∙ c.add.ensures) in
    let waiting : drop c.append.new.self.behind c.append.new.self.log.items ≡ publication_of front change ∷ [] =
    c.in-Ok.ensures.pending ∙ (ap (λ (more : List Publication). more ++ appended ∷ []) has.pending ∙ ap (λ (p : Publication). p ∷ []) publication) in
    follows_one now c.append.new.self.desk.shown.value (drop c.append.new.self.behind c.append.new.self.log.items) (publication_of front change)
    (ap (λ d. d.shown.value) c.in-Ok.ensures.desk)
    waiting
    (follows_drafted now front change has.whole has.plane has.shown taken)

pub invariant_of-self : goal.invariant_of-self
invariant_of-self g c =
    let front = c.self.inside.front in
    let has = c.self.invariant in
    let value : c.append.new.self.desk.shown.value ≡ c.self.inside.writer.desk.shown.value = ap (λ d. d.shown.value) c.in-Err.ensures.desk in
    let plane : c.add.new.front.plane ≡ front.plane = ap plane_of c.add.ensures in
    let changes : committed c.add.new.front.log ≡ committed front.log = ap changes_of c.add.ensures ∙ committed-draft front.log c.args.change.now in
    record {
      head = has.head ∙ sym plane;
      whole = subst IsWhole (sym value) has.whole;
      plane = ap (λ (copy : Published). copy.front.plane) value ∙ (has.plane ∙ sym plane);
      shown = ap (λ (copy : Published). shown copy.front.log) value ∙ (has.shown ∙ sym changes);
      pending = c.in-Err.ensures.pending.1 ∙ has.pending;
      seat = ap (λ d. (view {T = Published} {V = View} d.place).plane) c.in-Err.ensures.desk ∙ (has.seat ∙ ap (λ (p : Plane). Some p) (sym plane));
    }

pub returns-in-Err-clause-err : goal.returns-in-Err-clause-err
returns-in-Err-clause-err g c =
    let front = c.self.inside.front in
    let plane : c.add.new.front.plane ≡ front.plane = ap plane_of c.add.ensures in
    let changes : committed c.add.new.front.log ≡ committed front.log = ap changes_of c.add.ensures ∙ committed-draft front.log c.args.change.now in
    let now : Known = record { plane = c.add.new.front.plane; changes = committed c.add.new.front.log } in
    let before : Known = record { plane = front.plane; changes = committed front.log } in
    same_known now before plane changes ∙ c.self.view_is

-- the front with its draft and the commit
abbrev committed_front : Trace → Change → Trace
committed_front front change = record front { log = (front.log ++ Draft change ∷ []) ++ Commit ∷ [] }

abbrev with_commit : Trace → Trace
with_commit front = record front { log = front.log ++ Commit ∷ [] }

pub invariant_of-self-2 : goal.invariant_of-self-2
invariant_of-self-2 g c =
    let now = c.self.inside.writer.desk.shown.value in
    let front = c.self.inside.front in
    let change = c.args.change.now in
    let has = c.self.invariant in
    let taken : takes (after (committed front.log)) change ≡ true = subst (λ (k : Known). takes (after k.changes) change ≡ true) (sym c.self.view_is) c.requires in
    let appended : Publication = record { change = change; front = c.again.result } in
    let publication : appended ≡ publication_of front change = ap (with_front change) (c.again.ensures ∙ c.add.ensures) in
    let waiting : drop c.append.new.self.behind c.append.new.self.log.items ≡ publication_of front change ∷ [] =
    c.in-Ok.ensures.pending ∙ (ap (λ (more : List Publication). more ++ appended ∷ []) has.pending ∙ ap (λ (p : Publication). p ∷ []) publication) in
    let copy : c.replace_with.new.dest.desk.shown.value ≡ absorbed now (publication_of front change) =
    c.replace_with.ensures.0
    ∙ absorbed_one now c.append.new.self.desk.shown.value (drop c.append.new.self.behind c.append.new.self.log.items) (publication_of front change) (ap (λ d. d.shown.value) c.in-Ok.ensures.desk) waiting in
    let follows = follows_drafted now front change has.whole has.plane has.shown taken in
    let last : c.add-2.new.front ≡ committed_front front change = c.add-2.ensures ∙ ap with_commit c.add.ensures in
    let plane : c.add-2.new.front.plane ≡ front.plane = ap plane_of last in
    record {
      head = has.head ∙ sym plane;
      whole = subst IsWhole (sym copy) follows.whole;
      plane = ap (λ (p : Published). p.front.plane) copy ∙ sym plane;
      shown = ap (λ (p : Published). shown p.front.log) copy ∙ sym (ap changes_of last);
      pending = c.replace_with.ensures.1.0;
      seat = ap (λ (v : View). v.plane) c.replace_with.ensures.1.1 ∙ (ap (λ d. (view {T = Published} {V = View} d.place).plane) c.in-Ok.ensures.desk ∙ (has.seat ∙ ap (λ (p : Plane). Some p) (sym plane)));
    }

pub returns-clause-published : goal.returns-clause-published
returns-clause-published g c =
    let front = c.self.inside.front in
    let change = c.args.change.now in
    let last : c.add-2.new.front ≡ committed_front front change = c.add-2.ensures ∙ ap with_commit c.add.ensures in
    let now : Known = record { plane = c.add-2.new.front.plane; changes = committed c.add-2.new.front.log } in
    let more : Known = record { plane = front.plane; changes = committed front.log ++ change ∷ [] } in
    same_known now more (ap plane_of last) (ap changes_of last ∙ shown-draft front.log change)
    ∙ ap (λ (k : Known). let known : Known = record k { changes = k.changes ++ change ∷ [] } in known) c.self.view_is

pub returns-clause-count : goal.returns-clause-count
returns-clause-count g c =
    let holds = invariant_of-self-2 g c in
    c.count.ensures ∙ (ap (λ (p : Published). p.state.count) c.published.ensures ∙ count_shown c.replace_with.new.dest.desk.shown.value c.add-2.new.front.log holds.whole holds.shown)
