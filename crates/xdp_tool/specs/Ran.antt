-- How a run stands between two lines, at a phase's end, and what a phase leaves.
use Rattle.std.specs.Prelude.{◌≡◌, ℕ, ◌≤◌, List, ◌∷◌, [], length, drop, Option, ⊤}
use Rattle.script_text.specs.declared.what.Line.{Line}
use Rattle.xdp_state.specs.Book.{after}
use Rattle.xdp_state.specs.Legal.{AreLegalFrom, lasts_of}
use Rattle.xdp_state.specs.Sums.{Past, past_with}
use Rattle.xdp_state.specs.Standing.{Standing}
use Rattle.xdp_state.specs.Traversals.{carried_in, standings_in}
use Rattle.xdp_state.specs.Work.{all_needs}
use Rattle.xdp_state.specs.declared.carried.Carried.{Carried}
use Rattle.xdp_state.specs.declared.change.Change.{Change}
use Rattle.xdp_state.specs.declared.library.Library.{Library}
use Rattle.xdp_tool.specs.Carrying.{StandsAt}
use Rattle.xdp_tool.specs.Closing.{Shows}
use Rattle.xdp_tool.specs.Plan.{Phase, closed, phases_from}
use Rattle.xdp_tool.specs.Queues.{queues_of}
use Rattle.xdp_tool.specs.Walked.{Begun, IsAt, phases_behind}
use Rattle.xdp_tool.specs.declared.run.Run.{Run}
use Rattle.xdp_tool.specs.declared.shown.Shown.{Shown}

-- the walk is at the phase, the state has its publications, and the carrier stands where the phase began; nothing waits to be
-- written
pub record IsUnderWay (run : Run) (begun : Begun) (standings : List Standing) (phase : Phase) : Type 0 where
  pub at : IsAt run.walk begun phase
  pub state : run.state ≡ after phase.work.published
  pub carrier : StandsAt run.carrier begun.published standings
  pub standing : length standings ≡ length (queues_of run.walk.script.now.library.interfaces)
  pub library : run.shown.library.now ≡ run.walk.script.now.library
  pub waiting : run.buffer ≡ []

-- the rules after these publications, and the sums of all that was carried
pub record Rests (shown : Shown) (published : List Change) (past : Past) : Type 0 where
  pub earlier : Past
  pub carried : List (List Carried)
  pub shows : Shows shown published earlier carried
  pub counted : past ≡ past_with earlier carried

pub record Stands (run : Run) (begun : Begun) (past : Past) (standings : List Standing) (phase : Phase) : Type 0 where
  pub walks : IsUnderWay run begun standings phase
  pub rests : Rests run.shown begun.published past

-- a run of some phase
pub record IsStanding (run : Run) : Type 0 where
  pub begun : Begun
  pub past : Past
  pub standings : List Standing
  pub phase : Phase
  pub stands : Stands run begun past standings phase

-- each line that was walked is a publication and a packet at most
pub record HasRoom (run : Run) : Type 0 where
  pub within : run.walk.next ≤ length run.walk.script.now.lines
  pub published : run.state.count ≤ run.walk.next
  pub packets : run.walk.packets ≤ run.walk.next

-- The phase has ended that began so and had these lines before it.
pub record Ends (run : Run) (begun : Begun) (past : Past) (standings : List Standing) (barrier : Option ℕ) (first : Phase)
    (lines : List Line) : Type 0 where
  pub phase : Phase
  pub stands : Stands run begun past standings phase
  pub phases : phases_from run.walk.script.now.library first lines ≡ closed barrier phase
      ∷ phases_behind run.walk.script.now.library barrier phase (drop run.walk.next run.walk.script.now.lines)

-- the packets of a phase, carried with these counts
abbrev pub carried_by : Library → List Standing → Phase → List (List ℕ) → List (List Carried)
carried_by library standings phase counts = carried_in library phase.work.published standings phase.work.hand_ins counts

-- where the processors stand behind it
abbrev pub standings_by : Library → List Standing → Phase → List (List ℕ) → List Standing
standings_by library standings phase counts = standings_in library phase.work.published standings phase.work.hand_ins counts

-- the counts of a phase are legal behind these last counts
abbrev pub AreLegalOf : List ℕ → Phase → List (List ℕ) → Type 0
AreLegalOf lasts phase counts = AreLegalFrom lasts (length phase.work.published) (all_needs phase.work.hand_ins) counts

-- each of the counts is at most this one
abbrev pub AllWithin : ℕ → List ℕ → Type 0
AllWithin most [] = ⊤
AllWithin most (n ∷ ns) = (n ≤ most) × AllWithin most ns

-- the counts of the last phase of some choices
abbrev pub last_counts : List (List (List ℕ)) → List (List ℕ)
last_counts [] = []
last_counts (counts ∷ []) = counts
last_counts (counts ∷ next ∷ more) = last_counts (next ∷ more)

-- the last counts after some phases
abbrev pub lasts_after : List ℕ → List (List (List ℕ)) → List ℕ
lasts_after lasts [] = lasts
lasts_after lasts (counts ∷ choices) = lasts_after (lasts_of lasts counts) choices
