-- How a walk over a script's lines stands for the phase of the lines so far.
use Rattle.std.specs.Prelude.{◌≡◌, ℕ, ◌≤◌, ◌||◌, Bool, false, List, [], ◌∷◌, ◌++◌, length, Option, Some, None, Result, Ok, Err, ⊤}
use Rattle.std.specs.List.{list_any}
use Rattle.script_text.specs.declared.what.Line.{Line}
use Rattle.xdp_state.specs.Book.{AllTaken}
use Rattle.xdp_state.specs.Legal.{AreLegalCounts}
use Rattle.xdp_state.specs.Work.{needs_of}
use Rattle.xdp_state.specs.declared.change.Change.{Change}
use Rattle.xdp_state.specs.declared.library.Library.{Library}
use Rattle.xdp_state.specs.declared.packet.HandIn.{HandIn}
use Rattle.xdp_tool.specs.Plan.{Phase, is_refused, next_of, phases_from}
use Rattle.xdp_tool.specs.Queues.{queues_of}
use Rattle.xdp_tool.specs.declared.item.Item.{Item}
use Rattle.xdp_tool.specs.declared.turn.Turn.{Turn}
use Rattle.xdp_tool.specs.declared.walk.Walk.{Walk}

-- What was before the phase under way: the publications, and whether a command was refused.
pub record Begun : Type 0 where
  pub published : List Change
  pub refused : Bool

-- the items' counts rise, from the first number to the last
abbrev pub AreRising : ℕ → List Item → ℕ → Type 0
AreRising low [] high = low ≤ high
AreRising low (item ∷ items) high = (low ≤ item.count) × AreRising item.count items high

-- each processor's needs are counts that its packets may be carried with
abbrev pub AreSteady : ℕ → ℕ → List (List HandIn) → Type 0
AreSteady low high [] = ⊤
AreSteady low high (hs ∷ hand_ins) = AreLegalCounts low high (needs_of hs) (needs_of hs) × AreSteady low high hand_ins

-- the walk has the items, the changes and the hand-ins of the phase so far
pub record IsAt (walk : Walk) (begun : Begun) (phase : Phase) : Type 0 where
  pub items : walk.items.items ≡ phase.items
  pub published : phase.work.published ≡ begun.published ++ walk.changes.items
  pub hand_ins : walk.hand_ins.items ≡ phase.work.hand_ins
  pub packets : walk.packets ≡ phase.packets
  pub refused : walk.refused ≡ (begun.refused || list_any is_refused phase.items)
  pub taken : AllTaken phase.work.published
  pub rising : AreRising (length begun.published) phase.items (length phase.work.published)
  pub steady : AreSteady (length begun.published) (length phase.work.published) phase.work.hand_ins
  pub processors : length phase.work.hand_ins ≡ length (queues_of walk.script.now.library.interfaces)
  pub open_still : phase.barrier ≡ None

-- a turn gives what is asked, and the walk is at the next phase; where memory is wanting it is where it was
abbrev pub Goes : {E : Type 0} → Result Turn E → Turn → Walk → Begun → Phase → Phase → Type 0
Goes (Ok turn) wanted walk begun phase next = (turn ≡ wanted) × IsAt walk begun next
Goes (Err _) wanted walk begun phase next = IsAt walk begun phase

abbrev pub no_begun : Begun
no_begun = record { published = []; refused = false }

abbrev pub begun_after : Begun → Phase → Begun
begun_after begun phase = record {
  published = phase.work.published;
  refused = begun.refused || list_any is_refused phase.items;
}

-- the phases behind one that a barrier or the script's end has ended
abbrev pub phases_behind : Library → Option ℕ → Phase → List Line → List Phase
phases_behind library (Some line) phase lines = phases_from library (next_of library phase) lines
phases_behind library None phase lines = []
