-- How a trace that is replayed goes on over the phases of a run.
use Rattle.std.specs.Prelude.{◌≡◌, ℕ, true, false, List, [], ◌++◌, length, drop, take, slice_index_or, Option, Some, None, Result, Ok, Err, ⊤}
use Rattle.script_text.specs.Trace.{first_line}
use Rattle.xdp_state.specs.Legal.{lasts_of}
use Rattle.xdp_state.specs.Standing.{Standing}
use Rattle.xdp_state.specs.declared.library.Library.{Library}
use Rattle.xdp_tool.specs.Plan.{Phase}
use Rattle.xdp_tool.specs.Ran.{lasts_after}
use Rattle.xdp_tool.specs.Replay.{Covered, Replayed, covered_from, covered_of, line_of_rest, replayed}
use Rattle.xdp_tool.specs.declared.perform.Stop.{Stop}
use Rattle.xdp_tool.specs.declared.perform.Stop.TheVariants.{Differs}
use Rattle.xdp_tool.specs.declared.replay.Replay.{Replay}
use Rattle.xdp_tool.specs.declared.replay.Trace.{Trace}

-- before the first phase
abbrev pub StartsReplay : Option Replay → Option Trace → Type 0
StartsReplay None None = ⊤
StartsReplay (Some replay) (Some trace) =
    (replay.trace.now ≡ trace) × (replay.lasts ≡ []) × (replay.rest.now ≡ drop (length first_line) trace.text)
StartsReplay _ _ = ⊥

-- a replay has these last counts
abbrev pub HasLasts : Option Replay → List ℕ → Type 0
HasLasts None lasts = ⊤
HasLasts (Some replay) lasts = replay.lasts ≡ lasts

-- what the trace makes of the next phase
abbrev pub phase_by : Library → Replay → ℕ → List Standing → Phase → Replayed
phase_by library replay number standings phase =
    replayed library number standings phase replay.lasts replay.rest.now (slice_index_or replay.trace.now.choices number [])

-- the phase is covered, with these counts
pub record Passes (library : Library) (old new : Replay) (number : ℕ) (standings : List Standing) (phase : Phase) (counts : List (List ℕ)) : Type 0 where
  pub is : phase_by library old number standings phase ≡ record { counts = counts; rest = new.rest.now; covered = true }
  pub lasts : new.lasts ≡ lasts_of old.lasts counts
  pub trace : new.trace.now ≡ old.trace.now

-- the phase isn't covered, and this is the first line that differs
pub record Stops (library : Library) (old : Replay) (number : ℕ) (standings : List Standing) (phase : Phase) (line : ℕ) : Type 0 where
  pub counts : List (List ℕ)
  pub left : List ℕ
  pub is : phase_by library old number standings phase ≡ record { counts = counts; rest = left; covered = false }
  pub line_is : line ≡ line_of_rest old.trace.now.text left

abbrev pub GoesOn : Library → Option Replay → Option Replay → ℕ → List Standing → Phase → List (List ℕ) → Type 0
GoesOn library None None number standings phase counts = ⊤
GoesOn library (Some old) (Some new) number standings phase counts = Passes library old new number standings phase counts
GoesOn library _ _ number standings phase counts = ⊥

abbrev pub DiffersAt : Library → Option Replay → ℕ → List Standing → Phase → ℕ → Type 0
DiffersAt library None number standings phase line = ⊥
DiffersAt library (Some old) number standings phase line = Stops library old number standings phase line

-- behind these choices
abbrev pub behind : List (List (List ℕ)) → Covered → Covered
behind choices covered = record covered { choices = choices ++ covered.choices }

-- the phases of the choices are covered, and these phases are left
abbrev pub IsReplaying : Library → Option Trace → Option Replay → List Phase → List (List (List ℕ)) → List Standing → List Phase → Type 0
IsReplaying library None None plan choices standings left = ⊤
IsReplaying library (Some trace) (Some replay) plan choices standings left =
    (replay.trace.now ≡ trace) × (replay.lasts ≡ lasts_after [] choices)
    × (covered_of library trace plan ≡ behind choices (covered_from library trace.choices (length choices) standings replay.lasts replay.rest.now left))
IsReplaying library _ _ plan choices standings left = ⊥

-- A replay ends as its trace says: with all phases covered, or at the first line that differs. Where it stopped otherwise its
-- choices are the front of those that the trace covers.
abbrev pub EndsReplay : {A : Type 0} → Result A Stop → Trace → Covered → List (List (List ℕ)) → Type 0
EndsReplay (Ok _) trace covered choices = covered ≡ record { choices = choices; differs = None }
EndsReplay (Err (Differs line)) trace covered choices =
    (rest : List ℕ) × (covered ≡ record { choices = choices; differs = Some rest }) × (line ≡ line_of_rest trace.text rest)
EndsReplay (Err _) trace covered choices = (n : ℕ) × (choices ≡ take n covered.choices)

-- only a replay can differ
abbrev pub NeverDiffers : {A : Type 0} → Result A Stop → Type 0
NeverDiffers (Err (Differs line)) = ⊥
NeverDiffers _ = ⊤

abbrev pub IsReplayedTo : {A : Type 0} → Result A Stop → Library → Option Trace → List Phase → List (List (List ℕ)) → Type 0
IsReplayedTo result library None plan choices = NeverDiffers result
IsReplayedTo result library (Some trace) plan choices = EndsReplay result trace (covered_of library trace plan) choices
