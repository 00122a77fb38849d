-- What a run comes to: a function of its words, the contents of its files, what its objects load, how far reading went, and its choices.
use Rattle.std.specs.Prelude.{◌≡◌, ℕ, Bool, true, false, nat_le, nat_lt, List, [], ◌∷◌, length, position, slice_get, take, Option, Some, None, Result, Ok, Err, if◌then◌else◌, ⊤}
use Rattle.std.specs.List.{list_all}
use Rattle.std.specs.Option.{option_map_or}
use Rattle.std.specs.Str.{bytes_eq}
use Rattle.command_line.specs.Names.{Names}
use Rattle.object_load.specs.Load.{Loads}
use Rattle.script_text.specs.Readings.{◌>>=◌}
use Rattle.script_text.specs.Script.{script_of}
use Rattle.script_text.specs.TraceRead.{trace_read}
use Rattle.script_text.specs.declared.script.Script.{Script}
use Rattle.script_text.specs.declared.script.ScriptEnd.{ScriptEnd}
use Rattle.script_text.specs.declared.script.ScriptEnd.TheVariants as end
use Rattle.script_text.specs.declared.what.Line.{Line}
use Rattle.script_text.specs.declared.what.What.{What}
use Rattle.script_text.specs.declared.what.What.TheVariants as what
use Rattle.xdp_state.specs.declared.command.Command.TheVariants.{LoaderLoad}
use Rattle.xdp_state.specs.declared.library.Library.{Library}
use Rattle.xdp_state.specs.declared.library.Loaded.{Loaded}
use Rattle.xdp_state.specs.declared.library.Loaded.TheVariants.{Programs, Refused}
use Rattle.xdp_state.specs.declared.library.ObjectRow.{ObjectRow}
use Rattle.xdp_tool.specs.Plan.{Phase, plan, has_refusal}
use Rattle.xdp_tool.specs.Replay.{Covered, covered_of, line_of_rest}
use Rattle.xdp_tool.specs.declared.ending.Ending.{Ending}
use Rattle.xdp_tool.specs.declared.ending.Ending.TheVariants.{Done, BadScript, OutOfMemory, Limit, TraceDiffers}
use Rattle.xdp_tool.specs.declared.ending.LimitName.TheVariants as limit
use Rattle.xdp_tool.specs.declared.performance.Performance.{Performance}
use Rattle.xdp_tool.specs.declared.prepared.Prepared.{Prepared}
use Rattle.xdp_tool.specs.declared.replay.Trace.{Trace}

abbrev pub ending_of : ScriptEnd → Ending
ending_of (end.BadScript line rule) = BadScript line rule
ending_of end.TooManyLines = Limit limit.Lines
ending_of end.OutOfMemory = OutOfMemory

abbrev pub or_ending : Result Script ScriptEnd → Result Script Ending
or_ending (Ok script) = Ok script
or_ending (Err e) = Err (ending_of e)

-- a script of at most 16 MiB
abbrev pub script_at : List ℕ → Result Script Ending
script_at bytes = if nat_lt 16777216 (length bytes) then Err (Limit limit.Script) else or_ending (script_of bytes)

abbrev pub is_the_file : List ℕ → Option (List ℕ) → Bool
is_the_file file (Some name) = bytes_eq name file
is_the_file file None = false

-- the line loads an object from this file
abbrev pub asks_file : List (List ℕ) → List ℕ → What → Bool
asks_file objects file (what.Command (LoaderLoad words)) = is_the_file file (slice_get objects words.object)
asks_file objects file _ = false

abbrev pub loads_file : List (List ℕ) → List ℕ → Line → Bool
loads_file objects file line = asks_file objects file line.what

-- the number of the line at a place
abbrev pub line_at : List Line → ℕ → ℕ
line_at lines place = option_map_or (λ line. line.line) (slice_get lines place) 0

abbrev pub clashes_at : Script → Option ℕ → Result Script Ending
clashes_at script None = Ok script
clashes_at script (Some place) = Err (BadScript (line_at script.lines place) 14)

-- Rule 14: no line names the file that is made.
abbrev pub without_clash : Option (List ℕ) → Script → Result Script Ending
without_clash None script = Ok script
without_clash (Some file) script = clashes_at script (position (loads_file script.objects file) script.lines)

-- at most 16 objects, of at most 16 MiB each
abbrev pub with_few : Script → Result Script Ending
with_few script = if nat_lt 16 (length script.objects) then Err (Limit limit.Objects) else Ok script

abbrev pub is_small : (List ℕ → List ℕ) → List ℕ → Bool
is_small content name = nat_le (length (content name)) 16777216

abbrev pub with_small : (List ℕ → List ℕ) → Script → Result Script Ending
with_small content script = if list_all (is_small content) script.objects then Ok script else Err (Limit limit.Object)

unfoldable pub with_objects : (List ℕ → List ℕ) → Script → Result Script Ending
with_objects content script = with_few script >>= with_small content

-- the script of a file, whose objects fit, and of which no line names the file that is made
unfoldable pub script_in : (List ℕ → List ℕ) → List ℕ → Option (List ℕ) → Result Script Ending
script_in content name made = script_at (content name) >>= without_clash made >>= with_objects content

abbrev pub script_of_names : (List ℕ → List ℕ) → Names → Result Script Ending
script_of_names content names = script_in content names.script names.trace

-- a trace of at most 192 MiB, with the counts that were read of it
abbrev pub or_differs : List ℕ → Result (List (List (List ℕ))) ℕ → Result Trace Ending
or_differs text (Ok choices) = Ok (record { text = text; choices = choices })
or_differs text (Err line) = Err (TraceDiffers line)

abbrev pub trace_at : List ℕ → Result Trace Ending
trace_at bytes = if nat_lt 201326592 (length bytes) then Err (Limit limit.Trace) else or_differs bytes (trace_read bytes)

abbrev pub replay_at : (List ℕ → List ℕ) → Option (List ℕ) → Result (Option Trace) Ending
replay_at content None = Ok None
replay_at content (Some name) = trace_at (content name) >>= λ trace. Ok (Some trace)

-- a script, and the trace that is replayed with it, where one is
pub record Reading : Type 0 where
  pub script : Script
  pub trace : Option Trace

abbrev pub with_replay : (List ℕ → List ℕ) → Option (List ℕ) → Script → Result Reading Ending
with_replay content name script = replay_at content name >>= λ trace. Ok (record { script = script; trace = trace })

-- what is read of the files with these names, or how the run ends before its first line
abbrev pub reading_of : (List ℕ → List ℕ) → Names → Result Reading Ending
reading_of content names = script_of_names content names >>= with_replay content names.replay

-- what the bytes of an object give
abbrev pub IsLoaded : List ℕ → Loaded → Type 0
IsLoaded bytes (Programs programs) = Loads bytes (Ok programs)
IsLoaded bytes (Refused refusal) = Loads bytes (Err refusal)

-- what the files of these names give, in order
abbrev pub AreLoaded : (List ℕ → List ℕ) → List (List ℕ) → List ObjectRow → Type 0
AreLoaded content [] [] = ⊤
AreLoaded content (name ∷ names) (object ∷ objects) =
    (object.name ≡ name) × IsLoaded (content name) object.loaded × AreLoaded content names objects
AreLoaded content _ _ = ⊥

-- the lines of the script, and the library of what they name
pub record Holds (content : List ℕ → List ℕ) (script : Script) (prepared : Prepared) : Type 0 where
  pub interfaces : prepared.library.interfaces ≡ script.interfaces
  pub objects : AreLoaded content script.objects prepared.library.objects
  pub dumps : prepared.library.dumps ≡ script.dumps
  pub lines : prepared.lines ≡ script.lines

-- what is prepared of a script with its objects, or how the run ends before its first line
abbrev pub IsPrepared : (List ℕ → List ℕ) → Result Script Ending → Result Prepared Ending → Type 0
IsPrepared content (Ok script) (Ok prepared) = Holds content script prepared
IsPrepared content (Err ending) prepared = prepared ≡ Err ending
IsPrepared content (Ok script) (Err ending) = ⊥

-- the same of a script and a trace
abbrev pub IsPerformance : (List ℕ → List ℕ) → Result Reading Ending → Result Performance Ending → Type 0
IsPerformance content (Ok reading) (Ok performed) = Holds content reading.script performed.script × (performed.trace ≡ reading.trace)
IsPerformance content (Err ending) performed = performed ≡ Err ending
IsPerformance content (Ok reading) (Err ending) = ⊥

-- How far reading went: all went well, or a file failed before the first line.
pub data Cut : Type 0 where
  Whole : Cut
  Early : Cut

abbrev pub phases_of : Result Performance Ending → Cut → List Phase
phases_of (Ok performed) Whole = plan performed.script
phases_of _ _ = []

abbrev pub no_library : Library
no_library = record { interfaces = []; objects = []; dumps = [] }

abbrev pub library_of : Result Performance Ending → Library
library_of (Ok performed) = performed.script.library
library_of (Err _) = no_library

-- what a replay of the trace comes to
abbrev pub covered_by : Prepared → Trace → Covered
covered_by script trace = covered_of script.library trace (plan script)

abbrev pub ended_at : Prepared → Trace → Option (List ℕ) → Ending
ended_at script trace None = Done (has_refusal (plan script))
ended_at script trace (Some rest) = TraceDiffers (line_of_rest trace.text rest)

abbrev pub ended : Prepared → Option Trace → Ending
ended script None = Done (has_refusal (plan script))
ended script (Some trace) = ended_at script trace (covered_by script trace).differs

-- the ending of a run that meets no fault and has its memory
abbrev pub ending_after : Result Performance Ending → Ending
ending_after (Ok performed) = ended performed.script performed.trace
ending_after (Err ending) = ending

-- the choices of such a run: of all phases, and in a replay those of the trace for the phases that it covers
abbrev pub Covers : Prepared → Option Trace → List (List (List ℕ)) → Type 0
Covers script None choices = length choices ≡ length (plan script)
Covers script (Some trace) choices = choices ≡ (covered_by script trace).choices

-- in a replay no run has others
abbrev pub AreReplayed : Prepared → Option Trace → List (List (List ℕ)) → Type 0
AreReplayed script None choices = ⊤
AreReplayed script (Some trace) choices = (n : ℕ) × (choices ≡ take n (covered_by script trace).choices)
