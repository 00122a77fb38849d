-- What the top call promises of a run, of a script or of what kept the run from its first line.
use Rattle.std.specs.Prelude.{◌≡◌, ℕ, ◌==◌, ◌||◌, Bool, true, false, Option, None, List, [], ◌∷◌, ◌++◌, length, map, Result, Ok, Err, IfSome, if◌then◌else◌, ⊤}
use Rattle.std.specs.Prelude.{String}
use Rattle.std.specs.String.{string_bytes}
use Rattle.command_line.specs.Names.{Names}
use Rattle.command_line.specs.Replay.{wants_replay}
use Rattle.script_text.specs.Readings.{◌>>=◌}
use Rattle.script_text.specs.declared.script.Script.{Script}
use Rattle.xio.specs.Told.{Told}
use Rattle.xdp_state.specs.Legal.{AreLegal}
use Rattle.xdp_state.specs.Work.{plan_of}
use Rattle.xdp_tool.specs.Ending.{status_of, line_of, err_text}
use Rattle.xdp_tool.specs.Outcome.{AreReplayed, Covers, Cut, IsPerformance, IsPrepared, Reading, Whole, ending_after, library_of, phases_of, reading_of, script_at, script_of_names}
use Rattle.xdp_tool.specs.Plan.{works_of}
use Rattle.xdp_tool.specs.Touched.{calls_for}
use Rattle.xdp_tool.specs.Traversed.{out_for, trace_for}
use Rattle.xdp_tool.specs.Words.{names_in}
use Rattle.xdp_tool.specs.declared.ending.Ending.{Ending}
use Rattle.xdp_tool.specs.declared.ending.Ending.TheVariants.{Fault, OutOfMemory}
use Rattle.xdp_tool.specs.declared.performance.Performance.{Performance}
use Rattle.xdp_tool.specs.declared.prepared.Prepared.{Prepared}

abbrev pub words_of : {A : Type 0} → List (String A) → List (List ℕ)
words_of words = map string_bytes words

-- what the words name
abbrev pub names_by : {A : Type 0} → List (String A) → Result Names Ending
names_by words = names_in (words_of words)

-- where only a replay is taken, words that don't ask for one count as none, which aren't taken
abbrev pub replay_words : {A : Type 0} → List (String A) → List (String A)
replay_words words = if wants_replay (words_of words) then words else []

abbrev pub replay_by : {A : Type 0} → List (String A) → Result Names Ending
replay_by words = names_by (replay_words words)

-- what is read of the named files with the told contents, and what is prepared of it
abbrev pub reading_by : Result Names Ending → Told → Result Reading Ending
reading_by names told = names >>= reading_of told.content

abbrev pub IsPreparedBy : Result Names Ending → Told → Result Performance Ending → Type 0
IsPreparedBy names told script = IsPerformance told.content (reading_by names told) script

-- a status that is a function of the inputs: that of a run which neither met a fault nor wanted memory
abbrev pub is_decided : ℕ → Bool
is_decided status = (status == 0) || (status == 1) || (status == 2) || (status == 5) || (status == 6)

-- the statuses that there are
abbrev pub is_status : ℕ → Bool
is_status status = is_decided status || (status == 3) || (status == 4)

-- the statuses of a script that ran to its end
abbrev pub is_end : ℕ → Bool
is_end status = (status == 0) || (status == 1)

-- the statuses of a run whose out is whole
abbrev pub is_whole : ℕ → Bool
is_whole status = is_end status || (status == 2) || (status == 6)

-- the status and the line are those of the script's reading and running
pub record IsDecided (script : Result Performance Ending) (status line : ℕ) : Type 0 where
  pub status_is : status ≡ status_of (ending_after script)
  pub line_is : line ≡ line_of (ending_after script)

-- the text of out for the phases that the choices cover
abbrev pub out_of : Result Performance Ending → Cut → List (List (List ℕ)) → List ℕ
out_of script cut choices = out_for (library_of script) (phases_of script cut) choices

-- the trace's text for these phases
abbrev pub trace_of : Result Performance Ending → Cut → List (List (List ℕ)) → List ℕ
trace_of script cut choices = trace_for true (library_of script) (phases_of script cut) choices

abbrev pub IsCovered : Result Performance Ending → List (List (List ℕ)) → Type 0
IsCovered (Ok performed) choices = Covers performed.script performed.trace choices
IsCovered (Err _) choices = choices ≡ []

abbrev pub IsReplayed : Result Performance Ending → List (List (List ℕ)) → Type 0
IsReplayed (Ok performed) choices = AreReplayed performed.script performed.trace choices
IsReplayed (Err _) choices = choices ≡ []

-- The choices are legal for the phases that they cover, of the plan with this cut, and in a replay they are the trace's. With a
-- decided status nothing was cut, and all phases are covered, or in a replay those before the first line that differs.
pub record IsExplained (script : Result Performance Ending) (status : ℕ) (choices : List (List (List ℕ))) (cut : Cut) : Type 0 where
  pub whole : is_decided status ≡ true → cut ≡ Whole
  pub covered : is_decided status ≡ true → IsCovered script choices
  pub replayed : IsReplayed script choices
  pub legal : AreLegal (plan_of (works_of (phases_of script cut))) choices

-- what is said on err
abbrev pub said : Result Performance Ending → ℕ → List ℕ
said script status =
    if status == 3 then err_text Fault
    else if status == 4 then err_text OutOfMemory
    else err_text (ending_after script)

-- the objects that a script loads
abbrev pub objects_named : Result Script Ending → List (List ℕ)
objects_named (Ok script) = script.objects
objects_named (Err _) = []

-- the files that are read, in order: the script, its objects, and the trace that is replayed
abbrev pub names_read : (List ℕ → List ℕ) → List ℕ → List (List ℕ)
names_read content name = name ∷ objects_named (script_at (content name))

abbrev pub all_read : (List ℕ → List ℕ) → Names → List (List ℕ)
all_read content names = names_read content names.script ++ calls_for names.replay

abbrev pub asked_names : Result Names Ending → (List ℕ → List ℕ) → List (List ℕ)
asked_names (Ok names) content = all_read content names
asked_names (Err _) content = []

-- the file that a trace is wanted in
abbrev pub trace_name : Result Names Ending → Option (List ℕ)
trace_name (Ok names) = names.trace
trace_name (Err _) = None

-- the file that may be made: none where the words or what was read end the run before its first line
abbrev pub made_name : Result Names Ending → Result Reading Ending → Option (List ℕ)
made_name names (Ok _) = trace_name names
made_name names (Err _) = None

-- of a replay: what is promised of the script with its objects and of the text of the file that is replayed, where the script is one
abbrev pub OnReplayed : Result Names Ending → Told → (Prepared → List ℕ → Type 0) → Type 0
OnReplayed (Ok names) told Promised =
    IfSome names.replay (λ name. (script : Prepared) → IsPrepared told.content (script_of_names told.content names) (Ok script)
    → Promised script (told.content name))
OnReplayed (Err _) told Promised = ⊤

-- the file that the trace is made in holds the whole of its text, where a script was run
abbrev pub HoldsTrace : Result Names Ending → Result Performance Ending → Told → List (List (List ℕ)) → Type 0
HoldsTrace names (Ok performed) told choices = IfSome (trace_name names) (λ name. told.content name ≡ trace_of (Ok performed) Whole choices)
HoldsTrace names (Err _) told choices = ⊤
