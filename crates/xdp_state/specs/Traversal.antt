-- A packet's way through the members of its interface (chain calls: libxdp's dispatcher).
use Rattle.std.specs.Prelude.{ℕ, ◌+◌, List, [], ◌∷◌, Option, Some, None, if◌then◌else◌}
use Rattle.std.specs.Option.{option_map_or}
use Rattle.bpf_machine.specs.Buffer.{filled, bytes_in}
use Rattle.bpf_machine.specs.Outcome.{Outcome, outcome_of}
use Rattle.bpf_machine.specs.State.{Packet}
use Rattle.bpf_machine.specs.declared.ending.Cause.TheVariants.{Exit, Fault}
use Rattle.bpf_machine.specs.declared.ending.RunEnd.{RunEnd}
use Rattle.bpf_machine.specs.declared.environment.Env.{Env}
use Rattle.chain_order.specs.declared.member.Kind.{Kind}
use Rattle.chain_order.specs.declared.member.Kind.TheVariants as kind
use Rattle.chain_order.specs.declared.member.Member.{Member}
use Rattle.filter_rules.specs.Verdict.{verdict}
use Rattle.filter_rules.specs.declared.rule.RuleRow.{RuleRow}
use Rattle.filter_rules.specs.declared.verdict.FilterEnd.{FilterEnd}
use Rattle.filter_rules.specs.declared.verdict.FilterEnd.TheVariants.{Hit, Miss, Cut}
use Rattle.net_headers.specs.Headers.{headers_of}
use Rattle.object_load.specs.declared.program.Program.{Program}
use Rattle.xio.specs.Action.{has_action}
use Rattle.xio.specs.declared.action.Action.{Action}
use Rattle.xio.specs.declared.action.Action.TheVariants.{Aborted, Drop, Pass, Tx, Redirect}
use Rattle.xdp_state.specs.Book.{Book}
use Rattle.xdp_state.specs.Dump.{captured_at, dump_on, snaps_of}
use Rattle.xdp_state.specs.Handed.{Handed}
use Rattle.xdp_state.specs.Library.{program_at}
use Rattle.xdp_state.specs.Members.{chain_on}
use Rattle.xdp_state.specs.Standing.{Standing}
use Rattle.xdp_state.specs.Stores.{MemberMaps, maps_of, with_maps, prepared}
use Rattle.xdp_state.specs.Trails.{visit_of}
use Rattle.xdp_state.specs.declared.dump.Snaps.{Snaps}
use Rattle.xdp_state.specs.declared.library.Library.{Library}
use Rattle.xdp_state.specs.declared.trail.Seen.{Seen}
use Rattle.xdp_state.specs.declared.traversal.Traversal.{Traversal}
use Rattle.xdp_state.specs.declared.traversal.Visit.{Visit}

-- what stays the same while a packet goes its way: the filter's rows, the programs, the setting of the dump that is on, and
-- what a program is told
pub record Setting : Type 0 where
  pub rows : List RuleRow
  pub library : Library
  pub dump : Option ℕ
  pub env : Env

abbrev pub setting_of : List RuleRow → Library → Option ℕ → Env → Setting
setting_of rows library dump env = record { rows = rows; library = library; dump = dump; env = env }

-- what goes from member to member: the packet in its buffer, and the processor's maps
pub record Course : Type 0 where
  pub packet : Packet
  pub stores : List MemberMaps

abbrev pub course_of : Packet → List MemberMaps → Course
course_of packet stores = record { packet = packet; stores = stores }

-- what a member made of the packet, and the course behind it
pub record Made : Type 0 where
  pub seen : Seen
  pub course : Course

-- the same with the frames that are kept
pub record Passage : Type 0 where
  pub seen : Seen
  pub visit : Visit
  pub course : Course

-- a visit has a target only where it redirects
abbrev pub sent_to : Action → ℕ → ℕ
sent_to Aborted target = 0
sent_to Drop target = 0
sent_to Pass target = 0
sent_to Tx target = 0
sent_to Redirect target = target

-- a program that ended so
abbrev pub run_seen : Member → RunEnd → Seen
run_seen member end = record {
  number = member.number;
  kind = member.kind;
  action = end.action;
  cause = end.cause;
  target = sent_to end.action end.target;
  rule = None;
}

-- a program that isn't there
abbrev pub lost_seen : Member → Seen
lost_seen member = record {
  number = member.number;
  kind = member.kind;
  action = Aborted;
  cause = Fault;
  target = 0;
  rule = None;
}

-- a filter, whose frame may end in a header that is read
abbrev pub decided_seen : Member → Action → Option ℕ → Seen
decided_seen member action rule = record {
  number = member.number;
  kind = member.kind;
  action = action;
  cause = Exit;
  target = 0;
  rule = rule;
}

abbrev pub filter_seen : Member → FilterEnd → Seen
filter_seen member (Hit rule action) = decided_seen member action (Some rule)
filter_seen member (Miss action) = decided_seen member action None
filter_seen member Cut = decided_seen member Aborted None

-- a program writes to the packet and to its own maps
abbrev pub run_made : Member → Course → Outcome → Made
run_made member course outcome = record {
  seen = run_seen member outcome.answer;
  course = record { packet = outcome.packet; stores = with_maps course.stores member.number outcome.maps };
}

abbrev pub program_made : Setting → Course → Member → Option Program → Made
program_made setting course member None = record { seen = lost_seen member; course = course }
program_made setting course member (Some program) =
    run_made member course
    (outcome_of program.code.insns setting.env (maps_of course.stores member.number) course.packet)

-- a member by its kind; a filter changes nothing
abbrev pub made_as : Setting → Course → Member → Kind → Made
made_as setting course member (kind.Program program) =
    program_made setting course member (program_at setting.library program)
made_as setting course member (kind.Filter policy features) = record {
  seen = filter_seen member (verdict setting.rows (headers_of (bytes_in course.packet)) policy features);
  course = course;
}

unfoldable pub made : Setting → Course → Member → Made
made setting course member = made_as setting course member member.kind

-- the frame is kept as it comes in and as it goes out, where that is asked for
abbrev pub kept_by : Snaps → Course → Made → Passage
kept_by snaps course here = record {
  seen = here.seen;
  visit =
      visit_of here.seen (captured_at snaps.entry (bytes_in course.packet))
      (captured_at snaps.exit (bytes_in here.course.packet));
  course = here.course;
}

unfoldable pub passage : Setting → Course → Member → Passage
passage setting course member =
    kept_by (snaps_of setting.library setting.dump member.kind) course (made setting course member)

-- the visits in order, what decided, if one did, and what is left
pub record Way : Type 0 where
  pub visits : List Visit
  pub last : Option Seen
  pub course : Course

abbrev pub decided : Passage → Way
decided here = record { visits = here.visit ∷ []; last = Some here.seen; course = here.course }

abbrev pub with_visit : Visit → Way → Way
with_visit visit way = record way { visits = visit ∷ way.visits }

-- Where a member's mask has the action of its visit the next one is visited; otherwise this visit decides.
abbrev pub way_behind : ℕ → Passage → (Course → Way) → Way
way_behind mask here next = if has_action mask here.seen.action then with_visit here.visit (next here.course) else decided here

-- the members are visited in order
unfoldable pub way_from : Setting → Course → List Member → Way
way_from setting course [] = record { visits = []; last = None; course = course }
way_from setting course (member ∷ members) =
    way_behind member.mask (passage setting course member) (λ course. way_from setting course members)

-- the action and the target of the visit that decides; where none does XDP_PASS, with target 0
abbrev pub verdict_of : Option Seen → Action
verdict_of last = option_map_or (λ s. s.action) last Pass

abbrev pub target_of : Option Seen → ℕ
target_of last = option_map_or (λ s. s.target) last 0

abbrev pub traversal_of : Way → Traversal
traversal_of way = record {
  visits = way.visits;
  verdict = verdict_of way.last;
  target = target_of way.last;
  frame = bytes_in way.course.packet;
}

-- what programs are told of a packet
abbrev pub env_of : Standing → Handed → Env
env_of standing packet = record {
  timestamp = packet.timestamp;
  processor = standing.processor;
  ifindex = standing.interface + 1;
  queue = standing.queue;
}

-- the way of a packet that comes in where a processor stands
unfoldable pub way_of : Library → Book → Standing → Handed → Way
way_of library book standing packet =
    way_from (setting_of book.rows library (dump_on book.dumps standing.interface) (env_of standing packet))
    (course_of (filled packet.frame) standing.stores)
    (chain_on book.members standing.interface)

-- with the maps of the members that there are now
abbrev pub standing_for : Library → Book → Standing → Standing
standing_for library book standing =
    record standing { stores = prepared library (chain_on book.members standing.interface) standing.stores }

-- behind a packet that went so
abbrev pub standing_behind : Standing → Way → Standing
standing_behind standing way = record standing { stores = way.course.stores }
