-- A replay, as one phase after another is covered.
use Rattle.std.proofs.Common.{◌≡◌, ℕ, ◌+◌, ◌^◌, ◌<◌, ◌&&◌, Bool, true, false, List, [], ◌∷◌, ◌++◌, length, take, append-nil, append_assoc, length-append, Option, Some, None, IfSome, Result, Ok, Err, refl, sym, ap, ◌∙◌, arith}
use Rattle.std.proofs.Math.Seq.{take-append_seam, take-length}
use Rattle.xdp_state.specs.Legal.{lasts_of}
use Rattle.xdp_state.specs.Standing.{Standing}
use Rattle.xdp_state.specs.Traversals.{carried_in}
use Rattle.xdp_state.specs.Work.{all_needs}
use Rattle.xdp_state.specs.declared.carried.Carried.{Carried}
use Rattle.xdp_state.specs.declared.library.Library.{Library}
use Rattle.xdp_tool.proofs.Legality.{lasts_after-more}
use Rattle.xdp_tool.specs.PhaseEnd.{EndsChoices, OnChosen}
use Rattle.xdp_tool.specs.Plan.{Phase, closed}
use Rattle.xdp_tool.specs.Queues.{queues_of}
use Rattle.xdp_tool.specs.Traversed.{standings_of}
use Rattle.xdp_tool.specs.Ran.{lasts_after, standings_by}
use Rattle.xdp_tool.specs.Replay.{Covered, Replayed, are_whole, compared, cover_next, covered_from, covered_of, fronts_from, may_end, phase_lines, replayed, with_counts}
use Rattle.xdp_tool.specs.Replaying.{DiffersAt, GoesOn, HasLasts, IsReplayedTo, IsReplaying, StartsReplay, behind}
use Rattle.xdp_tool.specs.declared.perform.Stop.{Stop}
use Rattle.xdp_tool.specs.declared.perform.Stop.TheVariants.{Differs, Fault, OutOfMemory}
use Rattle.xdp_tool.specs.declared.replay.Replay.{Replay}
use Rattle.xdp_tool.specs.declared.replay.Trace.{Trace}

pub has-lasts : (trace : Option Trace) (replay : Option Replay) (library : Library) (plan : List Phase) (choices : List (List (List ℕ))) (standings : List Standing) (left : List Phase) → IsReplaying library trace replay plan choices standings left → HasLasts replay (lasts_after [] choices)
has-lasts None None library plan choices standings left is = tt
has-lasts None (Some replay) library plan choices standings left is = absurd is
has-lasts (Some trace) None library plan choices standings left is = absurd is
has-lasts (Some trace) (Some replay) library plan choices standings left is = is.1

pub replay-starts : (trace : Option Trace) (replay : Option Replay) (library : Library) (plan : List Phase) → StartsReplay replay trace → IsReplaying library trace replay plan [] (standings_of (queues_of library.interfaces)) plan
replay-starts None None library plan starts = tt
replay-starts None (Some replay) library plan starts = absurd starts
replay-starts (Some trace) None library plan starts = absurd starts
replay-starts (Some trace) (Some replay) library plan starts = (starts.0, starts.1, rw (starts.1, starts.2) refl)

behind-more : (choices : List (List (List ℕ))) (counts : List (List ℕ)) (covered : Covered) → behind choices (with_counts counts covered) ≡ behind (choices ++ counts ∷ []) covered
behind-more choices counts covered =
    ap (λ cs. let c : Covered = record { choices = cs; differs = covered.differs } in c) (sym (append_assoc choices (counts ∷ []) covered.choices))

pub replay-goes : (trace : Option Trace) (old new : Option Replay) (library : Library) (plan : List Phase) (choices : List (List (List ℕ))) (standings : List Standing) (phase : Phase) (counts : List (List ℕ)) (left : List Phase) → IsReplaying library trace old plan choices standings (phase ∷ left) → GoesOn library old new (length choices) standings phase counts → IsReplaying library trace new plan (choices ++ counts ∷ []) (standings_by library standings phase counts) left
replay-goes None None None library plan choices standings phase counts left is goes = tt
replay-goes None None (Some new) library plan choices standings phase counts left is goes = absurd goes
replay-goes None (Some old) new library plan choices standings phase counts left is goes = absurd is
replay-goes (Some trace) None new library plan choices standings phase counts left is goes = absurd is
replay-goes (Some trace) (Some old) None library plan choices standings phase counts left is goes = absurd goes
replay-goes (Some trace) (Some old) (Some new) library plan choices standings phase counts left is goes =
    let grown : length (choices ++ counts ∷ []) ≡ length choices + 1 = omega (arith, length-append choices (counts ∷ [])) in
    let more = λ (this : Replayed). covered_from library trace.choices (length choices + 1) (standings_by library standings phase this.counts) (lasts_of old.lasts this.counts) this.rest left in
    let this = rw is.0 at goes.is in (
      goes.trace ∙ is.0,
      goes.lasts ∙ (ap (λ lasts. lasts_of lasts counts) is.1 ∙ sym (lasts_after-more [] choices counts)),
      is.2 ∙ (ap (λ (r : Replayed). behind choices (cover_next r more)) this
          ∙ rw (grown, goes.lasts) (behind-more choices counts (covered_from library trace.choices (length choices + 1) (standings_by library standings phase counts) (lasts_of old.lasts counts) new.rest.now left))),
    )

pub replay-stops : (A : Type 0) (trace : Option Trace) (old : Option Replay) (library : Library) (plan : List Phase) (choices : List (List (List ℕ))) (standings : List Standing) (phase : Phase) (left : List Phase) (line : ℕ) → IsReplaying library trace old plan choices standings (phase ∷ left) → DiffersAt library old (length choices) standings phase line → IsReplayedTo {A = A} (Err (Differs line)) library trace plan choices
replay-stops A None None library plan choices standings phase left line is differs = absurd differs
replay-stops A None (Some old) library plan choices standings phase left line is differs = absurd is
replay-stops A (Some trace) None library plan choices standings phase left line is differs = absurd is
replay-stops A (Some trace) (Some old) library plan choices standings phase left line is differs =
    let more = λ (this : Replayed). covered_from library trace.choices (length choices + 1) (standings_by library standings phase this.counts) (lasts_of old.lasts this.counts) this.rest left in
    let this = rw is.0 at differs.is in
    let line_is = rw is.0 at differs.line_is in (
      differs.left,
      is.2 ∙ (ap (λ (r : Replayed). behind choices (cover_next r more)) this ∙ rw (append-nil choices) refl),
      line_is,
    )

pub replay-ends : {A : Type 0} (trace : Option Trace) (replay : Option Replay) (library : Library) (plan : List Phase) (choices : List (List (List ℕ))) (standings : List Standing) (x : A) → IsReplaying library trace replay plan choices standings [] → IsReplayedTo (Ok x) library trace plan choices
replay-ends None replay library plan choices standings x is = tt
replay-ends (Some trace) None library plan choices standings x is = absurd is
replay-ends (Some trace) (Some replay) library plan choices standings x is = is.2 ∙ rw (append-nil choices) refl

front-by : (trace : Trace) (library : Library) (plan : List Phase) (choices : List (List (List ℕ))) (covered : Covered) → covered_of library trace plan ≡ behind choices covered → (n : ℕ) × (choices ≡ take n (covered_of library trace plan).choices)
front-by trace library plan choices covered is =
    (length choices, sym (ap (λ (c : Covered). take (length choices) c.choices) is ∙ take-append_seam choices covered.choices))

pub replay-wants : (A : Type 0) (trace : Option Trace) (replay : Option Replay) (library : Library) (plan : List Phase) (choices : List (List (List ℕ))) (standings : List Standing) (left : List Phase) → IsReplaying library trace replay plan choices standings left → IsReplayedTo {A = A} (Err OutOfMemory) library trace plan choices
replay-wants A None replay library plan choices standings left is = tt
replay-wants A (Some trace) None library plan choices standings left is = absurd is
replay-wants A (Some trace) (Some replay) library plan choices standings left is = front-by trace library plan choices _ is.2

pub replay-fails : (A : Type 0) (trace : Option Trace) (replay : Option Replay) (library : Library) (plan : List Phase) (choices : List (List (List ℕ))) (standings : List Standing) (left : List Phase) → IsReplaying library trace replay plan choices standings left → IsReplayedTo {A = A} (Err Fault) library trace plan choices
replay-fails A None replay library plan choices standings left is = tt
replay-fails A (Some trace) None library plan choices standings left is = absurd is
replay-fails A (Some trace) (Some replay) library plan choices standings left is = front-by trace library plan choices _ is.2

pub replay-unflushed : {A : Type 0} (trace : Option Trace) (library : Library) (plan : List Phase) (choices : List (List (List ℕ))) (x : A) → IsReplayedTo (Ok x) library trace plan choices → IsReplayedTo {A = A} (Err Fault) library trace plan choices
replay-unflushed None library plan choices x is = tt
replay-unflushed (Some trace) library plan choices x is =
    (length choices, sym (ap (λ (c : Covered). take (length choices) c.choices) is ∙ take-length choices))

pub replay-next : (trace : Option Trace) (old new : Option Replay) (library : Library) (plan : List Phase) (choices now : List (List (List ℕ))) (standings : List Standing) (phase : Phase) (counts : List (List ℕ)) (left : List Phase) → now ≡ choices ++ counts ∷ [] → IsReplaying library trace old plan choices standings (phase ∷ left) → GoesOn library old new (length choices) standings phase counts → IsReplaying library trace new plan now (standings_by library standings phase counts) left
replay-next trace old new library plan choices now standings phase counts left pushed is goes =
    rw pushed (replay-goes trace old new library plan choices standings phase counts left is goes)

-- a walk to the phase's end changes nothing of it
pub replay-walked : (trace : Option Trace) (old walked : Option Replay) (library : Library) (plan : List Phase) (choices : List (List (List ℕ))) (standings : List Standing) (left : List Phase) (phase : Phase) (behind : List Phase) → walked ≡ old → left ≡ phase ∷ behind → IsReplaying library trace old plan choices standings left → IsReplaying library trace walked plan choices standings (phase ∷ behind)
replay-walked trace old walked library plan choices standings left phase behind same is replaying = rw (same, ← is) replaying

-- a phase that ended, or that was cut short
pub replay-cut : (A : Type 0) (trace : Option Trace) (old new : Option Replay) (library : Library) (plan : List Phase) (choices now : List (List (List ℕ))) (standings : List Standing) (phase : Phase) (counts : List (List ℕ)) (left : List Phase) (stop : Stop) → IsReplaying library trace old plan choices standings (phase ∷ left) → EndsChoices (Err stop) choices now counts → OnChosen (Err stop) (GoesOn library old new (length choices) standings phase counts) → ((line : ℕ) → stop ≡ Differs line → DiffersAt library old (length choices) standings phase line) → IsReplayedTo {A = A} (Err stop) library trace plan now
replay-cut A trace old new library plan choices now standings phase counts left Fault is chosen goes differs =
    replay-fails A trace new library plan now (standings_by library standings phase counts) left (replay-next trace old new library plan choices now standings phase counts left chosen is goes)
replay-cut A trace old new library plan choices now standings phase counts left OutOfMemory is chosen goes differs =
    rw chosen (replay-wants A trace old library plan choices standings (phase ∷ left) is)
replay-cut A trace old new library plan choices now standings phase counts left (Differs line) is chosen goes differs =
    rw chosen (replay-stops A trace old library plan choices standings phase left line is (differs line refl))

-- what a phase comes to, by what was taken from the trace, carried and compared
pub replayed-known : (library : Library) (number : ℕ) (standings : List Standing) (phase : Phase) (barrier : Option ℕ) (lasts rest : List ℕ) (has counts : List (List ℕ)) (whole same : Bool) (carried : List (List Carried)) (left : List ℕ) → counts ≡ fronts_from true lasts (length phase.work.published) (all_needs phase.work.hand_ins) has → whole ≡ are_whole (all_needs phase.work.hand_ins) counts → carried ≡ carried_in library phase.work.published standings phase.work.hand_ins counts → compared (phase_lines number whole barrier carried) rest ≡ record { rest = left; same = same } → replayed library number standings (closed barrier phase) lasts rest has ≡ record { counts = counts; rest = left; covered = whole && same && may_end barrier left }
replayed-known library number standings phase barrier lasts rest has counts whole same carried left counted wholly carries sames =
    rw (← counted, ← wholly, ← carries, sames) refl

-- the replayed trace's lines have numbers
pub numbered-by : (trace : Option Trace) (replay : Option Replay) (library : Library) (plan : List Phase) (choices : List (List (List ℕ))) (standings : List Standing) (left : List Phase) → IsReplaying library trace replay plan choices standings left → IfSome trace (λ t. length t.text < 2 ^ 31) → IfSome replay (λ r. length r.trace.now.text < 2 ^ 31)
numbered-by trace None library plan choices standings left is few = tt
numbered-by None (Some replay) library plan choices standings left is few = absurd is
numbered-by (Some trace) (Some replay) library plan choices standings left is few = rw is.0 few

-- before the first phase memory was wanting
pub replay-none : (A : Type 0) (trace : Option Trace) (library : Library) (plan : List Phase) (choices : List (List (List ℕ))) → choices ≡ [] → IsReplayedTo {A = A} (Err OutOfMemory) library trace plan choices
replay-none A None library plan choices none = tt
replay-none A (Some trace) library plan choices none = (0, none)
