-- What a script asks for, whenever its packets are carried.
use Rattle.std.specs.Prelude.{ℕ, ◌+◌, ◌*◌, Bool, true, false, List, [], ◌∷◌, ◌++◌, length, map, replicate, if◌then◌else◌, Option, Some, None, zero, suc}
use Rattle.std.specs.List.{list_any}
use Rattle.script_text.specs.declared.outcome.Outcome.{Outcome}
use Rattle.script_text.specs.declared.outcome.Outcome.TheVariants as outcome
use Rattle.script_text.specs.declared.what.Line.{Line}
use Rattle.script_text.specs.declared.what.What.{What}
use Rattle.script_text.specs.declared.what.What.TheVariants as what
use Rattle.xdp_state.specs.Answer.{answer}
use Rattle.xdp_state.specs.Book.{after}
use Rattle.xdp_state.specs.Work.{Work}
use Rattle.xdp_state.specs.declared.change.Change.{Change}
use Rattle.xdp_state.specs.declared.library.Library.{Library}
use Rattle.xdp_state.specs.declared.judgement.Judgement.{Judgement}
use Rattle.xdp_state.specs.declared.judgement.Judgement.TheVariants.{Accepted, Shown, Refused}
use Rattle.xdp_state.specs.declared.packet.HandIn.{HandIn}
use Rattle.xdp_tool.specs.Queues.{queues_of}
use Rattle.xdp_tool.specs.Table.{table_of}
use Rattle.xdp_tool.specs.declared.item.Item.{Item}
use Rattle.xdp_tool.specs.declared.prepared.Prepared.{Prepared}
use Rattle.xdp_tool.specs.declared.table.Table.{Table}

-- The part of a script up to a barrier, or up to the script's end.
pub record Phase : Type 0 where
  -- in script order
  pub items : List Item
  -- for the processors
  pub work : Work
  -- how many packets were handed in until its end, also in the phases before
  pub packets : ℕ
  -- the line of the barrier that ends it
  pub barrier : Option ℕ

-- nothing yet of so many processors, after these publications and so many packets
abbrev pub opened : ℕ → List Change → ℕ → Phase
opened processors published packets = record {
  items = [];
  work = record { published = published; hand_ins = replicate processors [] };
  packets = packets;
  barrier = None;
}

abbrev pub with_item : ℕ → Outcome → Option Table → Phase → Phase
with_item line outcome table phase = record phase {
  items = phase.items ++ record { line = line; outcome = outcome; count = length phase.work.published; table = table } ∷ [];
}

abbrev pub with_change : Change → Phase → Phase
with_change change phase = record phase { work = record phase.work { published = phase.work.published ++ change ∷ [] } }

-- an accepted change is the next publication; a refused or shown command publishes nothing
abbrev pub with_answer : ℕ → Table → Judgement → Phase → Phase
with_answer line table (Accepted change) phase =
    with_item line (outcome.Ok (length phase.work.published + 1)) None (with_change change phase)
with_answer line table Shown phase = with_item line outcome.Shown (Some table) phase
with_answer line table (Refused reason) phase = with_item line (outcome.Refused reason) None phase

-- one more packet of a processor
abbrev pub handed_to : ℕ → HandIn → List (List HandIn) → List (List HandIn)
handed_to processor h [] = []
handed_to zero h (hs ∷ hand_ins) = (hs ++ h ∷ []) ∷ hand_ins
handed_to (suc processor) h (hs ∷ hand_ins) = hs ∷ handed_to processor h hand_ins

-- a packet that a line hands in: its number among all packets, and a time of 1,000,000 nanoseconds for each line
abbrev pub hand_in : ℕ → List ℕ → Phase → HandIn
hand_in line frame phase = record {
  packet = record { id = phase.packets; timestamp = 1000000 * line; frame = frame };
  need = length phase.work.published;
}

abbrev pub with_packet : ℕ → ℕ → List ℕ → Phase → Phase
with_packet line processor frame phase = record (with_item line (outcome.Handed 1) None phase) {
  work = record phase.work { hand_ins = handed_to processor (hand_in line frame phase) phase.work.hand_ins };
  packets = phase.packets + 1;
}

-- the phase under way with one more line, which is no barrier
abbrev pub with_what : Library → ℕ → What → Phase → Phase
with_what library line (what.Command command) phase =
    with_answer line (table_of library command) (answer library (after phase.work.published) command) phase
with_what library line (what.Packet processor frame) phase = with_packet line processor frame phase
with_what library line what.Barrier phase = phase

abbrev pub is_barrier : What → Bool
is_barrier what.Barrier = true
is_barrier _ = false

-- a barrier ends a phase and opens the next one
abbrev pub closed : Option ℕ → Phase → Phase
closed barrier phase = record phase { barrier = barrier }

abbrev pub next_of : Library → Phase → Phase
next_of library phase = opened (length (queues_of library.interfaces)) phase.work.published phase.packets

-- the phases from the one under way on, by the lines that are left
abbrev pub phases_from : Library → Phase → List Line → List Phase
phases_from library phase [] = phase ∷ []
phases_from library phase (line ∷ lines) =
    if is_barrier line.what then closed (Some line.line) phase ∷ phases_from library (next_of library phase) lines
    else phases_from library (with_what library line.line line.what phase) lines

abbrev pub plan : Prepared → List Phase
plan script = phases_from script.library (opened (length (queues_of script.library.interfaces)) [] 0) script.lines

abbrev pub works_of : List Phase → List Work
works_of phases = map (λ phase. phase.work) phases

-- a command of the phase was refused
abbrev pub is_refused : Item → Bool
is_refused item = refuses item.outcome
  where
    refuses : Outcome → Bool
    refuses (outcome.Refused reason) = true
    refuses _ = false

abbrev pub has_refusal : List Phase → Bool
has_refusal phases = list_any (λ phase. list_any is_refused phase.items) phases
