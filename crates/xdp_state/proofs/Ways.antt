-- A way through a chain, member by member.
use Rattle.std.proofs.Common.{◌≡◌, ℕ, zero, suc, ◌+◌, true, false, List, [], ◌∷◌, ◌++◌, drop, length, refl, sym, ap, ◌∙◌, slice_get, Some, None, add-one, append_assoc, arith, vec_capacity}
use Rattle.std.specs.Prelude.{Option, vec_items}
use Rattle.std.proofs.lemmas.List.{append-nil}
use Rattle.chain_order.specs.declared.member.Member.{Member}
use Rattle.xio.specs.Action.{has_action}
use Rattle.std.specs.Option.{option_map}
use Rattle.bpf_machine.specs.Buffer.{bytes_in, filled}
use Rattle.bpf_machine.specs.Outcome.{Outcome, outcome_of}
use Rattle.bpf_machine.specs.declared.environment.Env.{Env}
use Rattle.filter_rules.specs.declared.rule.RuleRow.{RuleRow}
use Rattle.xio.specs.declared.action.Action.{Action}
use Rattle.xdp_state.specs.Book.{Book}
use Rattle.xdp_state.specs.Carrier.{Carrier}
use Rattle.xdp_state.specs.Dump.{captured_at, dump_on, snaps_of}
use Rattle.xdp_state.specs.Handed.{Handed}
use Rattle.xdp_state.specs.Members.{chain_on}
use Rattle.xdp_state.specs.Standing.{Standing}
use Rattle.xdp_state.specs.declared.library.Library.{Library}
use Rattle.bpf_machine.specs.State.{Packet}
use Rattle.bpf_machine.specs.declared.ending.RunEnd.{RunEnd}
use Rattle.object_load.specs.declared.program.Program.{Program}
use Rattle.xdp_state.specs.Stores.{MemberMaps, maps_of, with_maps}
use Rattle.xdp_state.specs.Traversal.{Course, Made, Passage, Setting, Way, course_of, decided, env_of, kept_by, made, passage, program_made, run_seen, setting_of, way_behind, way_from, way_of, with_visit}
use Rattle.xdp_state.specs.Trails.{IsEven, visit_of, visits_in, visits_of}
use Rattle.xdp_state.specs.declared.dump.Captured.{Captured}
use Rattle.xdp_state.specs.declared.dump.Snaps.{Snaps}
use Rattle.xdp_state.specs.declared.trail.Seen.{Seen}
use Rattle.xdp_state.specs.declared.trail.Trail.{Trail}
use Rattle.xdp_state.specs.declared.traversal.Visit.{Visit}

-- a packet's way, where all that it depends on was read
pub way_is : (library : Library) (book : Book) (standing : Standing) (handed : Handed) (rows : List RuleRow) (dump : Option ℕ) (env : Env) (packet : Packet) (stores : List MemberMaps) (chain : List Member) (way : Way)
    → rows ≡ book.rows → dump ≡ dump_on book.dumps standing.interface → env ≡ env_of standing handed → packet ≡ filled handed.frame → stores ≡ standing.stores → chain ≡ chain_on book.members standing.interface
    → way_from (setting_of rows library dump env) (course_of packet stores) chain ≡ way → way_of library book standing handed ≡ way
unfolding way_of
way_is library book standing handed rows dump env packet stores chain way rows_is dump_is env_is packet_is stores_is chain_is ran =
    rw (sym rows_is, sym dump_is, sym env_is, sym packet_is, sym stores_is, sym chain_is) ran

-- a processor's own, by its parts
abbrev pub carrier_of : Standing → Packet → List Visit → Option Action → ℕ → Carrier
carrier_of standing packet visits verdict target = record {
  standing = standing;
  trip = option_map (λ verdict. record { visits = visits; verdict = verdict; target = target; frame = bytes_in packet }) verdict;
}

pub same_carrier : (standing other : Standing) (packet same : Packet) (visits : List Visit) (verdict : Option Action) (target : ℕ) → standing ≡ other → packet ≡ same
    → carrier_of standing packet visits verdict target ≡ carrier_of other same visits verdict target
same_carrier standing other packet same visits verdict target one two =
    ap (λ standing. carrier_of standing packet visits verdict target) one ∙ ap (λ packet. carrier_of other packet visits verdict target) two

-- a program that was run, as what it made and the course behind it
pub program_ran : (setting : Setting) (packet behind : Packet) (stores others : List MemberMaps) (member : Member) (at : Option Program) (program : Program) (answer : RunEnd) (seen : Seen) → at ≡ Some program
    → outcome_of program.code.insns setting.env (maps_of stores member.number) packet ≡ (let outcome : Outcome = record { answer = answer; maps = maps_of others member.number; packet = behind } in outcome)
    → others ≡ with_maps stores member.number (maps_of others member.number) → seen ≡ run_seen member answer
    → program_made setting (course_of packet stores) member at ≡ (let here : Made = record { seen = seen; course = course_of behind others } in here)
program_ran setting packet behind stores others member at program answer seen is ran kept made =
    rw (is, ran, made, ← kept) refl

-- a way with visits in front of it
abbrev pub with_front : List Visit → Way → Way
with_front visits way = record way { visits = visits ++ way.visits }

abbrev pub passage_to : Seen → Visit → Course → Passage
passage_to seen visit course = record { seen = seen; visit = visit; course = course }

-- what was made of the packet in a frame, with the frames that are kept of it
abbrev pub visit_as : Setting → Member → Seen → Course → Course → Visit
visit_as setting member seen course next =
    visit_of seen (captured_at (snaps_of setting.library setting.dump member.kind).entry (bytes_in course.packet))
    (captured_at (snaps_of setting.library setting.dump member.kind).exit (bytes_in next.packet))

pub passage_is : (setting : Setting) (course next : Course) (member : Member) (seen : Seen) → made setting course member ≡ (let here : Made = record { seen = seen; course = next } in here)
    → passage setting course member ≡ passage_to seen (visit_as setting member seen course next) next
unfolding passage
passage_is setting course next member seen is = ap (kept_by (snaps_of setting.library setting.dump member.kind) course) is

-- one more member
pub visits-more : (seen : List Seen) (entries exits : List (Option Captured)) (last : Seen) (entry exit : Option Captured) → length entries ≡ length seen → length exits ≡ length seen
    → visits_of (seen ++ last ∷ []) (entries ++ entry ∷ []) (exits ++ exit ∷ []) ≡ visits_of seen entries exits ++ visit_of last entry exit ∷ []
visits-more [] [] [] last entry exit one two = refl
visits-more [] (a ∷ entries) exits last entry exit one two = absurd (omega arith)
visits-more [] [] (b ∷ exits) last entry exit one two = absurd (omega arith)
visits-more (s ∷ seen) [] exits last entry exit one two = absurd (omega arith)
visits-more (s ∷ seen) (a ∷ entries) [] last entry exit one two = absurd (omega arith)
visits-more (s ∷ seen) (a ∷ entries) (b ∷ exits) last entry exit one two =
    ap (λ vs. visit_of s a b ∷ vs) (visits-more seen entries exits last entry exit (omega arith) (omega arith))

pub visits-next : (seen seens : List Seen) (entries entered exits left : List (Option Captured)) (last : Seen) (entry exit : Option Captured) → length entries ≡ length seen → length exits ≡ length seen
    → seens ≡ seen ++ last ∷ [] → entered ≡ entries ++ entry ∷ [] → left ≡ exits ++ exit ∷ [] → visits_of seens entered left ≡ visits_of seen entries exits ++ visit_of last entry exit ∷ []
visits-next seen seens entries entered exits left last entry exit one two s e x = rw (s, e, x) (visits-more seen entries exits last entry exit one two)

length-push : {A : Type 0} (xs : List A) (x : A) → length (xs ++ x ∷ []) ≡ length xs + 1
length-push [] x = refl
length-push (y ∷ xs) x = let more = length-push xs x in omega (arith, more)

pub longer : {A : Type 0} (old new : List A) (x : A) → new ≡ old ++ x ∷ [] → length new ≡ length old + 1
longer old new x is = ap length is ∙ length-push old x

-- what a trail is behind one more member
pub record HasMore (setting : Setting) (member : Member) (seen : Seen) (before behind : Course) (old new : Trail) : Type 0 where
  pub visits : visits_in new ≡ visits_in old ++ visit_as setting member seen before behind ∷ []
  pub even : IsEven new
  pub many : length new.seen.items ≡ length old.seen.items + 1

-- the packet came to the member and left it, and both times its frame was kept where that is asked for
pub trail-more : (setting : Setting) (member : Member) (seen : Seen) (before behind : Course) (snaps : Snaps) (old between new : Trail) → IsEven old → snaps ≡ snaps_of setting.library setting.dump member.kind
    → between.entries ≡ old.entries ++ captured_at snaps.entry (bytes_in before.packet) ∷ [] → between.exits ≡ old.exits → between.seen ≡ old.seen
    → new.seen.items ≡ between.seen.items ++ seen ∷ [] → new.entries ≡ between.entries → new.exits ≡ between.exits ++ captured_at snaps.exit (bytes_in behind.packet) ∷ [] → vec_capacity new.seen ≡ vec_capacity between.seen
    → HasMore setting member seen before behind old new
trail-more setting member seen before behind snaps old between new even asked came kept same left through gone room =
    let asks : Snaps = snaps_of setting.library setting.dump member.kind in
    let seens : new.seen.items ≡ old.seen.items ++ seen ∷ [] = left ∙ ap (λ (v : List Seen). v ++ seen ∷ []) (ap vec_items same) in
    let entries : new.entries ≡ old.entries ++ captured_at asks.entry (bytes_in before.packet) ∷ [] =
    through ∙ came ∙ ap (λ (s : Snaps). old.entries ++ captured_at s.entry (bytes_in before.packet) ∷ []) asked in
    let exits : new.exits ≡ old.exits ++ captured_at asks.exit (bytes_in behind.packet) ∷ [] =
    gone ∙ ap (λ (es : List (Option Captured)). es ++ captured_at snaps.exit (bytes_in behind.packet) ∷ []) kept ∙ ap (λ (s : Snaps). old.exits ++ captured_at s.exit (bytes_in behind.packet) ∷ []) asked in
    let one = longer old.seen.items new.seen.items seen seens in
    record {
      visits = visits-next old.seen.items new.seen.items old.entries new.entries old.exits new.exits seen _ _ even.entries even.exits seens entries exits;
      even = record {
        entries = omega (arith, longer old.entries new.entries _ entries, one, even.entries);
        exits = omega (arith, longer old.exits new.exits _ exits, one, even.exits);
        room = omega (arith, room, ap (λ v. vec_capacity v) same, even.room);
      };
      many = one;
    }

-- the visit at a place
pub visit-at : (seen : List Seen) (entries exits : List (Option Captured)) (place : ℕ) (here : Seen) (entry exit : Option Captured) → slice_get seen place ≡ Some here → slice_get entries place ≡ Some entry → slice_get exits place ≡ Some exit
    → slice_get (visits_of seen entries exits) place ≡ Some (visit_of here entry exit)
visit-at [] entries exits place here entry exit is one two = absurd cc
visit-at (s ∷ seen) [] exits place here entry exit is one two = absurd cc
visit-at (s ∷ seen) (a ∷ entries) [] place here entry exit is one two = absurd cc
visit-at (s ∷ seen) (a ∷ entries) (b ∷ exits) zero here entry exit is one two =
    let same : s ≡ here = cc in
    let first : a ≡ entry = cc in
    let last : b ≡ exit = cc in
    rw (same, first, last) refl
visit-at (s ∷ seen) (a ∷ entries) (b ∷ exits) (suc place) here entry exit is one two = visit-at seen entries exits place here entry exit is one two

pub visits-long : (seen : List Seen) (entries exits : List (Option Captured)) → length entries ≡ length seen → length exits ≡ length seen → length (visits_of seen entries exits) ≡ length seen
visits-long [] entries exits one two = refl
visits-long (s ∷ seen) [] exits one two = absurd (omega arith)
visits-long (s ∷ seen) (a ∷ entries) [] one two = absurd (omega arith)
visits-long (s ∷ seen) (a ∷ entries) (b ∷ exits) one two =
    let more = visits-long seen entries exits (omega arith) (omega arith) in omega (arith, more)

drop-at : (chain : List Member) (place : ℕ) (member : Member) → slice_get chain place ≡ Some member → drop place chain ≡ member ∷ drop (suc place) chain
drop-at [] place member is = absurd cc
drop-at (m ∷ chain) zero member is = let same : m ≡ member = cc in ap (λ m. m ∷ chain) same
drop-at (m ∷ chain) (suc place) member is = drop-at chain place member is

-- the next member lets the packet go on, or decides
pub goes_on : (setting : Setting) (course : Course) (chain : List Member) (place : ℕ) (member : Member) (seen : Seen) (visit : Visit) (next : Course) → slice_get chain place ≡ Some member → passage setting course member ≡ passage_to seen visit next → has_action member.mask seen.action ≡ true
    → way_from setting course (drop place chain) ≡ with_visit visit (way_from setting next (drop (place + 1) chain))
unfolding way_from
goes_on setting course chain place member seen visit next is here goes =
    ap (way_from setting course) (drop-at chain place member is)
    ∙ ap (λ p. way_behind member.mask p (λ course. way_from setting course (drop (suc place) chain))) here
    ∙ rw (goes, add-one) refl

pub ends_here : (setting : Setting) (course : Course) (chain : List Member) (place : ℕ) (member : Member) (seen : Seen) (visit : Visit) (next : Course) → slice_get chain place ≡ Some member → passage setting course member ≡ passage_to seen visit next → has_action member.mask seen.action ≡ false
    → way_from setting course (drop place chain) ≡ decided (passage_to seen visit next)
unfolding way_from
ends_here setting course chain place member seen visit next is here stops =
    ap (way_from setting course) (drop-at chain place member is)
    ∙ ap (λ p. way_behind member.mask p (λ course. way_from setting course (drop (suc place) chain))) here
    ∙ rw stops refl

way_fields : (visits others : List Visit) (last : Option Seen) (course : Course) → visits ≡ others → record { visits = visits; last = last; course = course } ≡ (let way : Way = record { visits = others; last = last; course = course } in way)
way_fields visits others last course same = rw same refl

pub front-more : (visits : List Visit) (visit : Visit) (way : Way) → with_front visits (with_visit visit way) ≡ with_front (visits ++ visit ∷ []) way
front-more visits visit way = way_fields (visits ++ visit ∷ way.visits) ((visits ++ visit ∷ []) ++ way.visits) way.last way.course (sym (append_assoc visits (visit ∷ []) way.visits))

pub front-decided : (visits : List Visit) (seen : Seen) (visit : Visit) (course : Course) → with_front visits (decided (passage_to seen visit course)) ≡ (let way : Way = record { visits = visits ++ visit ∷ []; last = Some seen; course = course } in way)
front-decided visits seen visit course = refl

-- no member is left
pub way_ends : (setting : Setting) (course : Course) (visits : List Visit) → with_front visits (way_from setting course []) ≡ (let way : Way = record { visits = visits; last = None; course = course } in way)
unfolding way_from
way_ends setting course visits = way_fields (visits ++ []) visits None course (append-nil visits)
