-- What a run leaves of out and of the trace, which is a sink while it is written and a file by its name.
use Rattle.std.specs.Prelude.{◌≡◌, ◌⊎◌, ◌≤◌, ◌++◌, ℕ, Bool, true, List, [], ◌∷◌, length, take, IsTrue, IfOk, OnOk, Result}
use Rattle.xio.specs.Causes.{Rose}
use Rattle.xio.specs.Prefixes.{AppendsPrefix}
use Rattle.xio.specs.Told.{Told}
use Rattle.xdp_state.specs.Legal.{AreLegal}
use Rattle.xdp_state.specs.Work.{plan_of}
use Rattle.xdp_state.specs.declared.library.Library.{Library}
use Rattle.xdp_tool.specs.Headline.{is_decided, is_end}
use Rattle.xdp_tool.specs.Order.{AppendsWhole}
use Rattle.xdp_tool.specs.PhaseEnd.{OnEnded}
use Rattle.xdp_tool.specs.Plan.{Phase, has_refusal, plan, works_of}
use Rattle.xdp_tool.specs.Replaying.{IsReplayedTo}
use Rattle.script_text.specs.Trace.{first_line}
use Rattle.xdp_tool.specs.Traversed.{out_for, trace_for}
use Rattle.xdp_tool.specs.declared.perform.Stop.{Stop}
use Rattle.xdp_tool.specs.declared.performance.Performance.{Performance}

-- a count of faults rose, or stands at the last value of its type
abbrev pub Rises : {S : Type 0} → (S → ℕ) → S → S → Type 0
Rises faults old new = Rose (faults old) (faults new)

-- all that a sink holds is flushed, or it failed
abbrev pub IsSettled : {S : Type 0} → (S → List ℕ) → (S → ℕ) → (S → ℕ) → S → S → Type 0
IsSettled held flushed faults old new = (flushed new ≡ length (held new)) ⊎ Rises faults old new

-- a sink's count of faults never falls, and what no call changes stays
pub record KeepsSink {S K : Type 0} (faults : S → ℕ) (setting : S → K) (old new : S) : Type 0 where
  pub later : faults old ≤ faults new
  pub same_setting : setting new ≡ setting old

-- The front of the text stands behind what a sink held; all of it does at `Ok`, where all is flushed, and where a trace differs.
pub record FillsSink {S A : Type 0} (held : S → List ℕ) (flushed : S → ℕ) (old new : S) (text : List ℕ) (result : Result A Stop) : Type 0 where
  pub front : AppendsPrefix (held old) (held new) text
  pub whole : OnEnded result (held new ≡ held old ++ text)
  pub all_flushed : OnOk result (flushed new ≡ length (held new))

-- the file is as it was, or it was made and holds the front of its text
abbrev pub IsTracedUpTo : Told → Told → List ℕ → List ℕ → Type 0
IsTracedUpTo old new text name = (new.content name ≡ old.content name) ⊎ AppendsPrefix [] (new.content name) text

-- the file holds its text, all of it flushed
pub record IsTraced (new : Told) (text name : List ℕ) : Type 0 where
  pub content : new.content name ≡ text
  pub flushed : new.flushed name ≡ length text

-- the file holds no more than the front of its text; all of it at `Ok`, where it is flushed, and where a trace differs
pub record FillsFile {A : Type 0} (old new : Told) (text : List ℕ) (result : Result A Stop) (name : List ℕ) : Type 0 where
  pub front : IsTracedUpTo old new text name
  pub content : OnEnded result (new.content name ≡ text)
  pub whole : OnOk result (IsTraced new text name)

-- no phase is covered, and out, where it tells, is as it was
abbrev pub IsUnbegun : Bool → List ℕ → List ℕ → List (List (List ℕ)) → Type 0
IsUnbegun tells old_out out choices = (choices ≡ []) × (IsTrue tells → out ≡ old_out)

-- the file was made in this call, and its first line stands in it
pub record HasBegun (old new : Told) (name : List ℕ) : Type 0 where
  pub made : new.made ≡ old.made ++ name ∷ []
  pub first : AppendsWhole [] (new.content name) first_line

-- of some number of phases out has the texts whole, and the trace no more than the front of theirs
abbrev pub IsOrdered : Bool → Library → List Phase → List (List (List ℕ)) → List ℕ → List ℕ → (List ℕ → Type 0) → Type 0
IsOrdered traced library phases choices old_out out IsFront =
    (ended : ℕ) × AppendsWhole old_out out (out_for library phases (take ended choices))
    × IsFront (trace_for traced library phases (take ended choices))

-- The choices are legal for the phases that they cover; at `Ok` they cover all, and it says whether a command was refused. A replay
-- has its choices from the trace.
pub record Performs (performed : Performance) (choices : List (List (List ℕ))) (result : Result Bool Stop) : Type 0 where
  pub legal : AreLegal (plan_of (works_of (plan performed.script))) choices
  pub covered : OnOk result (length choices ≡ length (plan performed.script))
  pub refused : IfOk result (λ refused. refused ≡ has_refusal (plan performed.script))
  pub replayed : IsReplayedTo result performed.script.library performed.trace (plan performed.script) choices

-- the same by the status of the run
pub record LeavesOut {S : Type 0} (held : S → List ℕ) (old new : S) (text : List ℕ) (status : ℕ) : Type 0 where
  pub front : AppendsPrefix (held old) (held new) text
  pub whole : is_decided status ≡ true → held new ≡ held old ++ text

pub record LeavesTrace (old new : Told) (text : List ℕ) (status : ℕ) (name : List ℕ) : Type 0 where
  pub front : IsTracedUpTo old new text name
  pub whole : is_end status ≡ true → IsTraced new text name
