-- Packets that are carried as soon as a state has their count.
use Rattle.std.proofs.Common.{◌≡◌, ◌≢◌, ℕ, ◌+◌, ◌<◌, ◌≤◌, zero, suc, List, [], ◌∷◌, ◌++◌, length, take, drop, map, slice_set, append-nil, append_assoc, length-append, length-drop, refl, sym, ap, ◌∙◌, arith, get_or}
use Rattle.std.proofs.Common.{Bool, true, false, ◌&&◌, Result, Ok, Err, IfOk, OnOk}
use Rattle.std.proofs.Math.Seq.{take-append-add}
use Rattle.std.proofs.lemmas.List.{drop_more, drop-set-lt, length-map, length-take, map-append, take-append-drop, take_more}
use Rattle.xdp_state.proofs.Counts.{after_more, count_after}
use Rattle.xdp_state.specs.Book.{AllTaken, Book, after, all_taken_from, applied, empty, made, takes}
use Rattle.xdp_state.specs.declared.carried.Carried.{Carried}
use Rattle.xdp_state.specs.Legal.{AreLegalCounts}
use Rattle.xdp_state.specs.Standing.{Standing}
use Rattle.xdp_state.specs.Traversals.{carried_from, carried_in, carried_with, standing_from, standing_with, standings_in}
use Rattle.xdp_state.specs.Work.{all_needs, needs_of}
use Rattle.xdp_state.specs.declared.change.Change.{Change}
use Rattle.xdp_state.specs.declared.library.Library.{Library}
use Rattle.xdp_state.specs.declared.packet.HandIn.{HandIn}
use Rattle.xdp_tool.specs.Carrying.{AllUpTo, AreDue, AreIdle, AreIdleTo, AreLegalFront, AreStanding, IsUpTo}
use Rattle.xdp_tool.specs.QueueView.{queue_of}
use Rattle.xdp_tool.specs.Queues as specs
use Rattle.xdp_tool.specs.Traversed.{standing_of, standings_from, standings_of}
use Rattle.xdp_tool.specs.Walked.{AreSteady}
use Rattle.xdp_tool.specs.declared.queue.Queue.{Queue}
use Rattle.xdp_tool.specs.declared.processor.Processor.{Processor}

-- the packet is carried whose count the state has
pub up_to-more : (library : Library) (published : List Change) (standing : Standing) (hs : List HandIn) (counts : List ℕ) (now : ℕ) (old new : Processor) (h : HandIn) → length old.carried < length hs → length old.carried < length counts → h ≡ get_or hs (length old.carried) h → now ≡ get_or counts (length old.carried) 0 → new.carried ≡ old.carried ++ carried_with library published old.own.standing now h.packet ∷ [] → new.own.standing ≡ standing_with library published old.own.standing now h.packet → IsUpTo library published standing hs counts now old → IsUpTo library published standing hs counts now new
up_to-more library published standing hs counts now old new h below under is here more goes up =
    let k = length old.carried in
    let own = old.own.standing in
    let this = carried_with library published own now h.packet in
    let next : length new.carried ≡ k + 1 = ap length more ∙ (length-append old.carried (this ∷ []) ∙ omega arith) in
    let packets : drop k hs ≡ h ∷ drop (k + 1) hs = drop_more hs k h below ∙ ap (λ x. x ∷ drop (k + 1) hs) (sym is) in
    let theirs : drop k counts ≡ now ∷ drop (k + 1) counts = drop_more counts k 0 under ∙ ap (λ x. x ∷ drop (k + 1) counts) (sym here) in
    record {
      carried = rw (next, more, goes, append_assoc old.carried (this ∷ []) (carried_from library published (standing_with library published own now h.packet) (drop (k + 1) hs) (drop (k + 1) counts)))
          (rw (packets, theirs) at up.carried);
      stands = rw (next, goes) (rw (packets, theirs) at up.stands);
      legal = let legal = rw (packets, theirs) at up.legal in rw next (legal.3);
    }

legal-past : (now high : ℕ) (needs counts : List ℕ) → (0 < length needs → 0 < length counts → get_or counts 0 0 ≢ now) → AreLegalFront now high needs counts → AreLegalFront (now + 1) high needs counts
legal-past now high [] counts other legal = tt
legal-past now high (n ∷ ns) [] other legal = tt
legal-past now high (n ∷ ns) (c ∷ cs) other legal =
    let apart : c ≢ now = other (omega arith) (omega arith) in
    (omega (arith, legal.0, apart), legal.1, legal.2, legal.3)

length-needs : (hs : List HandIn) → length (needs_of hs) ≡ length hs
length-needs hs = length-map hs (λ (h : HandIn). h.need)

past-end : {A : Type 0} (k : ℕ) (xs : List A) → 0 < length (drop k xs) → k < length xs
past-end k xs some = omega (arith, length-drop k xs, some)

first-left : (k d : ℕ) (xs : List ℕ) → get_or (drop k xs) 0 d ≡ get_or xs k d
first-left zero d xs = refl
first-left (suc k) d [] = refl
first-left (suc k) d (x ∷ xs) = first-left k d xs

-- no packet that is left has the state's count
pub up_to-next : (library : Library) (published : List Change) (standing : Standing) (hs : List HandIn) (counts : List ℕ) (now : ℕ) (p : Processor) → (length p.carried < length hs → length p.carried < length counts → get_or counts (length p.carried) 0 ≢ now) → IsUpTo library published standing hs counts now p → IsUpTo library published standing hs counts (now + 1) p
up_to-next library published standing hs counts now p other up =
    let k = length p.carried in
    record {
      carried = up.carried;
      stands = up.stands;
      legal = legal-past now (length published) (needs_of (drop k hs)) (drop k counts)
          (λ some more same. other (past-end k hs (rw length-needs at some)) (past-end k counts more) (sym (first-left k 0 counts) ∙ same)) up.legal;
    }

-- a processor more has carried what is due
pub all-step : (library : Library) (done : ℕ) (published : List Change) (now : ℕ) (ss : List Standing) (hss : List (List HandIn)) (css : List (List ℕ)) (ps : List Processor) (hs : List HandIn) (cs : List ℕ) (p new : Processor) → done < length ps → p ≡ get_or ps done p → hs ≡ get_or hss done hs → cs ≡ get_or css done cs → ((s : Standing) → IsUpTo library published s hs cs now p → IsUpTo library published s hs cs (now + 1) new) → AllUpTo library done published now ss hss css ps → AllUpTo library (suc done) published now ss hss css (slice_set ps done new)
all-step library done published now [] [] [] [] hs cs p new below is h c goes all = absurd (omega arith)
all-step library done published now [] [] [] (q ∷ ps) hs cs p new below is h c goes all = absurd all
all-step library done published now [] [] (y ∷ css) ps hs cs p new below is h c goes all = absurd all
all-step library done published now [] (x ∷ hss) css ps hs cs p new below is h c goes all = absurd all
all-step library zero published now (s ∷ ss) [] css ps hs cs p new below is h c goes all = absurd all
all-step library zero published now (s ∷ ss) (x ∷ hss) [] ps hs cs p new below is h c goes all = absurd all
all-step library zero published now (s ∷ ss) (x ∷ hss) (y ∷ css) [] hs cs p new below is h c goes all = absurd all
all-step library (suc done) published now (s ∷ ss) [] css ps hs cs p new below is h c goes all = absurd all
all-step library (suc done) published now (s ∷ ss) (x ∷ hss) [] ps hs cs p new below is h c goes all = absurd all
all-step library (suc done) published now (s ∷ ss) (x ∷ hss) (y ∷ css) [] hs cs p new below is h c goes all = absurd all
all-step library zero published now (s ∷ ss) (x ∷ hss) (y ∷ css) (q ∷ ps) hs cs p new below is h c goes all =
    (rw (← h, ← c) (goes s (rw (is, h, c) all.0)), all.1)
all-step library (suc done) published now (s ∷ ss) (x ∷ hss) (y ∷ css) (q ∷ ps) hs cs p new below is h c goes all =
    (all.0, all-step library done published now ss hss css ps hs cs p new (omega arith) is h c goes all.1)

pub all-done : (library : Library) (done : ℕ) (published : List Change) (now : ℕ) (ss : List Standing) (hss : List (List HandIn)) (css : List (List ℕ)) (ps : List Processor) → length ps ≤ done → AllUpTo library done published now ss hss css ps → AllUpTo library 0 published (now + 1) ss hss css ps
all-done library done published now [] [] [] [] all up = tt
all-done library done published now [] [] [] (p ∷ ps) all up = absurd up
all-done library done published now [] [] (cs ∷ css) ps all up = absurd up
all-done library done published now [] (hs ∷ hss) css ps all up = absurd up
all-done library zero published now (s ∷ ss) [] css ps all up = absurd up
all-done library zero published now (s ∷ ss) (hs ∷ hss) [] ps all up = absurd up
all-done library zero published now (s ∷ ss) (hs ∷ hss) (cs ∷ css) [] all up = absurd up
all-done library (suc done) published now (s ∷ ss) [] css ps all up = absurd up
all-done library (suc done) published now (s ∷ ss) (hs ∷ hss) [] ps all up = absurd up
all-done library (suc done) published now (s ∷ ss) (hs ∷ hss) (cs ∷ css) [] all up = absurd up
all-done library zero published now (s ∷ ss) (hs ∷ hss) (cs ∷ css) (p ∷ ps) all up = absurd (omega arith)
all-done library (suc done) published now (s ∷ ss) (hs ∷ hss) (cs ∷ css) (p ∷ ps) all up = (up.0, all-done library done published now ss hss css ps (omega arith) up.1)

pub all-lengths : (library : Library) (done : ℕ) (published : List Change) (now : ℕ) (ss : List Standing) (hss : List (List HandIn)) (css : List (List ℕ)) (ps : List Processor) → AllUpTo library done published now ss hss css ps → record { hand_ins : length hss ≡ length ps; counts : length css ≡ length ps }
all-lengths library done published now [] [] [] [] all = record { hand_ins = refl; counts = refl }
all-lengths library done published now [] [] [] (p ∷ ps) all = absurd all
all-lengths library done published now [] [] (cs ∷ css) ps all = absurd all
all-lengths library done published now [] (hs ∷ hss) css ps all = absurd all
all-lengths library zero published now (s ∷ ss) [] css ps all = absurd all
all-lengths library zero published now (s ∷ ss) (hs ∷ hss) [] ps all = absurd all
all-lengths library zero published now (s ∷ ss) (hs ∷ hss) (cs ∷ css) [] all = absurd all
all-lengths library (suc done) published now (s ∷ ss) [] css ps all = absurd all
all-lengths library (suc done) published now (s ∷ ss) (hs ∷ hss) [] ps all = absurd all
all-lengths library (suc done) published now (s ∷ ss) (hs ∷ hss) (cs ∷ css) [] all = absurd all
all-lengths library zero published now (s ∷ ss) (hs ∷ hss) (cs ∷ css) (p ∷ ps) all =
    let rest = all-lengths library zero published now ss hss css ps all.1 in record { hand_ins = omega (arith, rest.hand_ins); counts = omega (arith, rest.counts) }
all-lengths library (suc done) published now (s ∷ ss) (hs ∷ hss) (cs ∷ css) (p ∷ ps) all =
    let rest = all-lengths library done published now ss hss css ps all.1 in record { hand_ins = omega (arith, rest.hand_ins); counts = omega (arith, rest.counts) }

-- before the phase's first publication
pub all-start : (library : Library) (published : List Change) (low high : ℕ) (ss : List Standing) (hss : List (List HandIn)) (css : List (List ℕ)) (ps : List Processor) → high ≡ length published → AreIdle ps ss → AreDue low high ss hss css → AllUpTo library 0 published low ss hss css ps
all-start library published low high [] [] [] [] is idle due = tt
all-start library published low high [] [] (cs ∷ css) ps is idle due = absurd due
all-start library published low high [] (hs ∷ hss) css ps is idle due = absurd due
all-start library published low high (s ∷ ss) [] css ps is idle due = absurd due
all-start library published low high (s ∷ ss) (hs ∷ hss) [] ps is idle due = absurd due
all-start library published low high [] [] [] (p ∷ ps) is idle due = absurd idle
all-start library published low high (s ∷ ss) (hs ∷ hss) (cs ∷ css) [] is idle due = absurd idle
all-start library published low high (s ∷ ss) (hs ∷ hss) (cs ∷ css) (p ∷ ps) is idle due = (
  record {
    carried = rw (idle.1, idle.0) refl;
    stands = rw (idle.1, idle.0) refl;
    legal = rw (idle.1, ← is) due.0;
  },
  all-start library published low high ss hss css ps is idle.2 due.1,
)

-- behind its last publication nothing is left
none-left : (library : Library) (published : List Change) (left : Standing) (now : ℕ) (hs : List HandIn) (cs : List ℕ) → length published < now → AreLegalFront now (length published) (needs_of hs) cs → record { packets : carried_from library published left hs cs ≡ []; standing : standing_from library published left hs cs ≡ left }
none-left library published left now [] cs past legal = record { packets = refl; standing = refl }
none-left library published left now (h ∷ hs) [] past legal = record { packets = refl; standing = refl }
none-left library published left now (h ∷ hs) (c ∷ cs) past legal = absurd (omega (arith, legal.0, legal.2))

pub all-end : (library : Library) (published : List Change) (now : ℕ) (ss : List Standing) (hss : List (List HandIn)) (css : List (List ℕ)) (ps : List Processor) → length published < now → AllUpTo library 0 published now ss hss css ps → record { carried : map (λ (p : Processor). p.carried) ps ≡ carried_in library published ss hss css; standing : AreStanding ps (standings_in library published ss hss css) }
all-end library published now [] [] [] [] past all = record { carried = refl; standing = tt }
all-end library published now [] [] [] (p ∷ ps) past all = absurd all
all-end library published now [] [] (cs ∷ css) ps past all = absurd all
all-end library published now [] (hs ∷ hss) css ps past all = absurd all
all-end library published now (s ∷ ss) [] css ps past all = absurd all
all-end library published now (s ∷ ss) (hs ∷ hss) [] ps past all = absurd all
all-end library published now (s ∷ ss) (hs ∷ hss) (cs ∷ css) [] past all = absurd all
all-end library published now (s ∷ ss) (hs ∷ hss) (cs ∷ css) (p ∷ ps) past all =
    let rest = all-end library published now ss hss css ps past all.1 in
    let up = all.0 in
    let none = none-left library published p.own.standing now (drop (length p.carried) hs) (drop (length p.carried) cs) past up.legal in
    let mine : p.carried ≡ carried_from library published s hs cs = sym (up.carried ∙ ap (λ more. p.carried ++ more) none.packets ∙ append-nil p.carried) in
    let stands : p.own.standing ≡ standing_from library published s hs cs = sym (up.stands ∙ none.standing) in
    record { carried = rw (mine, rest.carried) refl; standing = (stands, rest.standing) }

-- what a processor carried is handed over
pub idle-step : (done : ℕ) (ps : List Processor) (ss : List Standing) (p new : Processor) → done < length ps → p ≡ get_or ps done p → new.carried ≡ [] → new.own.standing ≡ p.own.standing → AreIdleTo done ps ss → AreIdleTo (suc done) (slice_set ps done new) ss
idle-step done [] ss p new below is none same idle = absurd (omega arith)
idle-step zero (q ∷ ps) [] p new below is none same idle = absurd idle
idle-step (suc done) (q ∷ ps) [] p new below is none same idle = absurd idle
idle-step zero (q ∷ ps) (s ∷ ss) p new below is none same idle = (same ∙ ap (λ (x : Processor). x.own.standing) is ∙ idle.0, none, idle.1)
idle-step (suc done) (q ∷ ps) (s ∷ ss) p new below is none same idle = (idle.0, idle.1, idle-step done ps ss p new (omega arith) is none same idle.2)

pub idle-start : (ps : List Processor) (ss : List Standing) → AreStanding ps ss → AreIdleTo 0 ps ss
idle-start [] [] stands = tt
idle-start [] (s ∷ ss) stands = absurd stands
idle-start (p ∷ ps) [] stands = absurd stands
idle-start (p ∷ ps) (s ∷ ss) stands = (stands.0, idle-start ps ss stands.1)

pub idle-done : (done : ℕ) (ps : List Processor) (ss : List Standing) → length ps ≤ done → AreIdleTo done ps ss → AreIdle ps ss
idle-done done [] [] all idle = tt
idle-done done [] (s ∷ ss) all idle = absurd idle
idle-done zero (p ∷ ps) ss all idle = absurd (omega arith)
idle-done (suc done) (p ∷ ps) [] all idle = absurd idle
idle-done (suc done) (p ∷ ps) (s ∷ ss) all idle = (idle.0, idle.1, idle-done done ps ss (omega arith) idle.2)

pub idle-push : (ps : List Processor) (ss : List Standing) (p : Processor) (s : Standing) → p.own.standing ≡ s → p.carried ≡ [] → AreIdle ps ss → AreIdle (ps ++ p ∷ []) (ss ++ s ∷ [])
idle-push [] [] p s same none idle = (same, none, tt)
idle-push [] (t ∷ ss) p s same none idle = absurd idle
idle-push (q ∷ ps) [] p s same none idle = absurd idle
idle-push (q ∷ ps) (t ∷ ss) p s same none idle = (idle.0, idle.1, idle-push ps ss p s same none idle.2)

-- what one processor more carried
pub finish-step : (ps : List Processor) (k : ℕ) (p new : Processor) (carried more all : List (List Carried)) (list : List Carried) → k < length ps → p ≡ get_or ps k p → list ≡ p.carried → more ≡ carried ++ list ∷ [] → carried ++ map (λ (x : Processor). x.carried) (drop k ps) ≡ all → more ++ map (λ (x : Processor). x.carried) (drop (k + 1) (slice_set ps k new)) ≡ all
finish-step ps k p new carried more all list below is same pushed whole =
    let left : drop k ps ≡ p ∷ drop (k + 1) ps = drop_more ps k p below ∙ ap (λ x. x ∷ drop (k + 1) ps) (sym is) in
    let behind : drop (k + 1) (slice_set ps k new) ≡ drop (k + 1) ps = drop-set-lt (k + 1) ps k new (omega arith) in
    rw (pushed, behind, same, append_assoc carried (p.carried ∷ []) (map (λ (x : Processor). x.carried) (drop (k + 1) ps)))
    (ap (λ xs. carried ++ map (λ (x : Processor). x.carried) xs) (sym left) ∙ whole)

both : (a b : Bool) → (a && b) ≡ true → record { first : a ≡ true; second : b ≡ true }
both true b h = record { first = refl; second = h }
both false b h = absurd cc

taken-from : (book : Book) (xs ys : List Change) → all_taken_from book (xs ++ ys) ≡ true → all_taken_from book xs ≡ true
taken-from book [] ys taken = refl
taken-from book (x ∷ xs) ys taken =
    let h = both (takes book x) (all_taken_from (made book x) (xs ++ ys)) taken in
    rw h.first (taken-from (made book x) xs ys h.second)

-- a state after some of a phase's changes
pub record StateAt (before changes : List Change) (i : ℕ) (state : Book) : Type 0 where
  pub count : state.count ≡ length before + i
  pub is : state ≡ after (take state.count (before ++ changes))

pub state-at : (before changes : List Change) (i : ℕ) (state : Book) → AllTaken (before ++ changes) → i ≤ length changes → state ≡ after (before ++ take i changes) → StateAt before changes i state
state-at before changes i state taken le is =
    let whole : before ++ changes ≡ (before ++ take i changes) ++ drop i changes = ap (λ xs. before ++ xs) (sym (take-append-drop i changes)) ∙ sym (append_assoc before (take i changes) (drop i changes)) in
    let first : AllTaken (before ++ take i changes) = taken-from empty (before ++ take i changes) (drop i changes) (rw whole at taken) in
    let count : state.count ≡ length before + i = ap (λ (b : Book). b.count) is ∙ (count_after (before ++ take i changes) first ∙ omega (arith, length-append before (take i changes), length-take i changes)) in
    record { count = count; is = is ∙ ap after (sym (ap (λ n. take n (before ++ changes)) count ∙ take-append-add before changes i)) }

-- two clauses of one call, together
pub if_ok-both : {T E : Type 0} (r : Result T E) (P : T → Type 0) (Q : Type 0) (R : T → Type 0) → ((x : T) → P x → Q → R x) → IfOk r P → OnOk r Q → IfOk r R
if_ok-both (Ok x) P Q R f p q = f x p q
if_ok-both (Err e) P Q R f p q = tt

front-of : (last high : ℕ) (needs counts : List ℕ) → AreLegalCounts last high needs counts → AreLegalFront last high needs counts
front-of last high [] counts legal = tt
front-of last high (n ∷ ns) [] legal = tt
front-of last high (n ∷ ns) (c ∷ cs) legal = (legal.0, legal.1, legal.2, front-of c high ns cs legal.3)

-- needs that may be counts are due
pub due-steady : (low high : ℕ) (ss : List Standing) (hss : List (List HandIn)) → length ss ≡ length hss → AreSteady low high hss → AreDue low high ss hss (all_needs hss)
due-steady low high [] [] same steady = tt
due-steady low high [] (hs ∷ hss) same steady = absurd (omega (arith, same))
due-steady low high (s ∷ ss) [] same steady = absurd (omega (arith, same))
due-steady low high (s ∷ ss) (hs ∷ hss) same steady = (front-of low high (needs_of hs) (needs_of hs) steady.0, due-steady low high ss hss (omega (arith, same)) steady.1)

pub length-standings : (library : Library) (published : List Change) (ss : List Standing) (hss : List (List HandIn)) (css : List (List ℕ)) → length ss ≡ length hss → length css ≡ length hss → length (standings_in library published ss hss css) ≡ length ss
length-standings library published [] [] css same counts = refl
length-standings library published [] (hs ∷ hss) css same counts = absurd (omega (arith, same))
length-standings library published (s ∷ ss) [] css same counts = absurd (omega (arith, same))
length-standings library published (s ∷ ss) (hs ∷ hss) [] same counts = absurd (omega (arith, counts))
length-standings library published (s ∷ ss) (hs ∷ hss) (cs ∷ css) same counts = omega (arith, length-standings library published ss hss css (omega (arith, same)) (omega (arith, counts)))

pub taken-front : (xs ys : List Change) → AllTaken (xs ++ ys) → AllTaken xs
taken-front xs ys taken = taken-from empty xs ys taken

-- one change more
pub state-more : (before changes : List Change) (i : ℕ) (d : Change) (state new : Book) → i < length changes → state ≡ after (before ++ take i changes) → new ≡ applied state (get_or changes i d) → new ≡ after (before ++ take (i + 1) changes)
state-more before changes i d state new below is goes =
    goes ∙ (ap (λ b. applied b (get_or changes i d)) is ∙ (sym (after_more (before ++ take i changes) (get_or changes i d))
    ∙ ap after (append_assoc before (take i changes) (get_or changes i d ∷ []) ∙ ap (λ xs. before ++ xs) (sym (take_more changes i d below)))))

-- a processor for each queue
pub length-standing : (first : ℕ) (queues : List specs.Queue) → length (standings_from first queues) ≡ length queues
length-standing first [] = refl
length-standing first (q ∷ queues) = omega (arith, length-standing (first + 1) queues)

standings-push : (first : ℕ) (queues : List specs.Queue) (queue : specs.Queue) → standings_from first (queues ++ queue ∷ []) ≡ standings_from first queues ++ standing_of (first + length queues) queue ∷ []
standings-push first [] queue = let none : first + 0 ≡ first = omega arith in rw none refl
standings-push first (q ∷ queues) queue =
    let place : first + 1 + length queues ≡ first + suc (length queues) = omega arith in rw (standings-push (first + 1) queues queue, place) refl

-- a processor of one queue more
pub idle-more : (queues : List Queue) (i : ℕ) (d : Queue) (ps all : List Processor) (p : Processor) → i < length queues → p.own.standing ≡ standing_of i (queue_of (get_or queues i d)) → p.carried ≡ [] → all ≡ ps ++ p ∷ [] → AreIdle ps (standings_of (map queue_of (take i queues))) → AreIdle all (standings_of (map queue_of (take (i + 1) queues)))
idle-more queues i d ps all p below same none pushed idle =
    let seen : List specs.Queue = map queue_of (take i queues) in
    let number : 0 + length seen ≡ i = omega (arith, length-map (take i queues) queue_of, length-take i queues, below) in
    let more : standings_of (map queue_of (take (i + 1) queues)) ≡ standings_of seen ++ standing_of i (queue_of (get_or queues i d)) ∷ [] =
    ap (λ qs. standings_of (map queue_of qs)) (take_more queues i d below) ∙ ap standings_of (map-append queue_of (take i queues) (get_or queues i d ∷ []))
    ∙ standings-push 0 seen (queue_of (get_or queues i d)) ∙ ap (λ n. standings_of seen ++ standing_of n (queue_of (get_or queues i d)) ∷ []) number in
    rw (pushed, more) (idle-push ps (standings_of seen) p (standing_of i (queue_of (get_or queues i d))) same none idle)

-- a callee's clause for each value, used whole
pub on_ok-all : {T E A : Type 0} {S Q : A → Type 0} {G : Type 0} (r : Result T E) → ((a : A) → S a → OnOk r (Q a)) → (((a : A) → S a → Q a) → G) → OnOk r G
on_ok-all (Ok x) h f = f h
on_ok-all (Err e) h f = tt
