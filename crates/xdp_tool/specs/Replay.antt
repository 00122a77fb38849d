-- A trace that is replayed: how far its counts are legal, and how far its lines are those of a run with these counts.
use Rattle.std.specs.Prelude.{ℕ, ◌+◌, ◌-◌, ◌==◌, ◌&&◌, nat_le, nat_eq, Bool, true, false, List, [], ◌∷◌, ◌++◌, length, take, drop, slice_index_or, Option, Some, None, if◌then◌else◌}
use Rattle.std.specs.List.{count_by, starts_with}
use Rattle.script_text.specs.Trace.{first_line, heading, last_line, packet_trace}
use Rattle.xdp_state.specs.Legal.{first_last, lasts_of, other_lasts}
use Rattle.xdp_state.specs.Standing.{Standing}
use Rattle.xdp_state.specs.Traversals.{carried_in, standings_in}
use Rattle.xdp_state.specs.Work.{all_needs}
use Rattle.xdp_state.specs.declared.carried.Carried.{Carried}
use Rattle.xdp_state.specs.declared.library.Library.{Library}
use Rattle.xdp_tool.specs.Plan.{Phase}
use Rattle.xdp_tool.specs.Queues.{queues_of}
use Rattle.xdp_tool.specs.Traversed.{standings_of}
use Rattle.xdp_tool.specs.declared.replay.Trace.{Trace}

-- is it a legal count, behind this last one?
abbrev pub is_legal : ℕ → ℕ → ℕ → ℕ → Bool
is_legal last need published count = nat_le last count && nat_le need count && nat_le count published

-- the counts of a processor's packets, up to the first that isn't legal
abbrev pub legal_front : ℕ → ℕ → List ℕ → List ℕ → List ℕ
legal_front last published (need ∷ needs) (count ∷ counts) =
    if is_legal last need published count then count ∷ legal_front count published needs counts else []
legal_front last published _ _ = []

-- of a processor that a trace doesn't have no packet is counted
abbrev pub first_counts : List (List ℕ) → List ℕ
first_counts [] = []
first_counts (counts ∷ more) = counts

abbrev pub other_counts : List (List ℕ) → List (List ℕ)
other_counts [] = []
other_counts (counts ∷ more) = more

abbrev pub front_if : Bool → ℕ → ℕ → List ℕ → List ℕ → List ℕ
front_if whole last published needs counts = if whole then legal_front last published needs counts else []

-- By processor. Behind a packet whose count isn't legal, or isn't there, none is counted.
abbrev pub fronts_from : Bool → List ℕ → ℕ → List (List ℕ) → List (List ℕ) → List (List ℕ)
fronts_from whole lasts published [] counts = []
fronts_from whole lasts published (needs ∷ more) counts =
    front_if whole (first_last lasts) published needs (first_counts counts)
    ∷ fronts_from (whole && (length (front_if whole (first_last lasts) published needs (first_counts counts)) == length needs))
    (other_lasts lasts) published more (other_counts counts)

-- is each packet counted?
abbrev pub are_whole : List (List ℕ) → List (List ℕ) → Bool
are_whole [] [] = true
are_whole (needs ∷ more) (counts ∷ others) = (length counts == length needs) && are_whole more others
are_whole _ _ = false

-- the lines of a phase, of which only the script's end is marked, and only where each packet is counted
abbrev pub packets_lines : ℕ → ℕ → List Carried → List (List ℕ)
packets_lines processor place [] = []
packets_lines processor place (packet ∷ packets) = packet_trace processor place packet ∷ packets_lines processor (place + 1) packets

abbrev pub processors_lines : ℕ → List (List Carried) → List (List ℕ)
processors_lines processor [] = []
processors_lines processor (packets ∷ more) = packets_lines processor 0 packets ++ processors_lines (processor + 1) more

abbrev pub end_lines : Bool → Option ℕ → List (List ℕ)
end_lines true None = last_line ∷ []
end_lines _ _ = []

abbrev pub phase_lines : ℕ → Bool → Option ℕ → List (List Carried) → List (List ℕ)
phase_lines number whole barrier carried = heading number ∷ (processors_lines 0 carried ++ end_lines whole barrier)

-- A text from the first of some lines on that it doesn't have there, or behind them all.
pub record Compared : Type 0 where
  pub rest : List ℕ
  pub same : Bool

abbrev pub compared : List (List ℕ) → List ℕ → Compared
compared [] text = record { rest = text; same = true }
compared (line ∷ lines) text =
    if starts_with nat_eq text line then compared lines (drop (length line) text)
    else record { rest = text; same = false }

-- behind the script's end nothing stands
abbrev pub may_end : Option ℕ → List ℕ → Bool
may_end (Some line) rest = true
may_end None rest = length rest == 0

-- A phase that is replayed: the counts that its packets were carried with, what is left of the trace, and whether the phase is
-- covered.
pub record Replayed : Type 0 where
  pub counts : List (List ℕ)
  pub rest : List ℕ
  pub covered : Bool

abbrev pub replayed_with : ℕ → Phase → Bool → List (List ℕ) → Compared → Replayed
replayed_with number phase whole counts seen =
    record { counts = counts; rest = seen.rest; covered = whole && seen.same && may_end phase.barrier seen.rest }

abbrev pub replayed_by : Library → ℕ → List Standing → Phase → List ℕ → List (List ℕ) → Replayed
replayed_by library number standings phase rest counts =
    let whole = are_whole (all_needs phase.work.hand_ins) counts in
    replayed_with number phase whole counts
    (compared (phase_lines number whole phase.barrier (carried_in library phase.work.published standings phase.work.hand_ins counts)) rest)

-- with the last counts of the phases before, what is left of the text, and the counts that the trace has for the phase
abbrev pub replayed : Library → ℕ → List Standing → Phase → List ℕ → List ℕ → List (List ℕ) → Replayed
replayed library number standings phase lasts rest counts =
    replayed_by library number standings phase rest
    (fronts_from true lasts (length phase.work.published) (all_needs phase.work.hand_ins) counts)

-- What a replay comes to: the counts of the phases that it covers, and what is left of the trace from the first line on that
-- differs, where one does.
pub record Covered : Type 0 where
  pub choices : List (List (List ℕ))
  pub differs : Option (List ℕ)

abbrev pub with_counts : List (List ℕ) → Covered → Covered
with_counts counts covered = record covered { choices = counts ∷ covered.choices }

-- a phase, and those behind it where it is covered
abbrev pub cover_next : Replayed → (Replayed → Covered) → Covered
cover_next phase more =
    if phase.covered then with_counts phase.counts (more phase) else record { choices = []; differs = Some phase.rest }

-- from the phase of this number on
abbrev pub covered_from : Library → List (List (List ℕ)) → ℕ → List Standing → List ℕ → List ℕ → List Phase → Covered
covered_from library choices number standings lasts rest [] = record { choices = []; differs = None }
covered_from library choices number standings lasts rest (phase ∷ phases) =
    cover_next (replayed library number standings phase lasts rest (slice_index_or choices number [])) (λ this. covered_from library choices (number + 1)
    (standings_in library phase.work.published standings phase.work.hand_ins this.counts) (lasts_of lasts this.counts) this.rest phases)

-- the number of the line from which on this is left of a text
abbrev pub line_of_rest : List ℕ → List ℕ → ℕ
line_of_rest text rest = 1 + count_by (λ b. b == 10) (take (length text - length rest) text)

-- a trace, replayed with the phases of a plan
abbrev pub covered_of : Library → Trace → List Phase → Covered
covered_of library trace phases =
    covered_from library trace.choices 0 (standings_of (queues_of library.interfaces)) [] (drop (length first_line) trace.text) phases
