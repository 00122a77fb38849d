-- What is performed, by the steps of its reading: a script with its objects, and then a trace.
use Rattle.std.proofs.Common.{◌≡◌, ℕ, List, Option, Some, None, Result, Ok, Err, refl, sym, ap, subst, ◌∙◌}
use Rattle.command_line.specs.Names.{Names}
use Rattle.script_text.specs.Readings.{◌>>=◌}
use Rattle.script_text.specs.declared.script.Script.{Script}
use Rattle.xdp_tool.specs.Named.{Gives}
use Rattle.xdp_tool.specs.Outcome.{IsPerformance, IsPrepared, Reading, reading_of, replay_at, script_of_names, trace_at, with_replay}
use Rattle.xdp_tool.specs.declared.ending.Ending.{Ending}
use Rattle.xdp_tool.specs.declared.ending.Ending.TheVariants as ending
use Rattle.xdp_tool.specs.declared.performance.Performance.{Performance}
use Rattle.xdp_tool.specs.declared.prepared.Prepared.{Prepared}
use Rattle.xdp_tool.specs.declared.replay.Trace.{Trace}

-- a script with what was read of the trace
reading-as : (content : List ℕ → List ℕ) (replay : Option (List ℕ)) (s : Script) (trace : Option Trace) → replay_at content replay ≡ Ok trace → with_replay content replay s ≡ Ok (record { script = s; trace = trace })
reading-as content replay s trace has =
    ap (λ (r : Result (Option Trace) Ending). r >>= (λ t. let read : Result Reading Ending = Ok (record { script = s; trace = t }) in read)) has

reading-not : (content : List ℕ → List ℕ) (replay : Option (List ℕ)) (s : Script) (e : Ending) → replay_at content replay ≡ Err e → with_replay content replay s ≡ Err e
reading-not content replay s e none =
    ap (λ (r : Result (Option Trace) Ending). r >>= (λ t. let read : Result Reading Ending = Ok (record { script = s; trace = t }) in read)) none

-- by what was read of the script
by-script : (content : List ℕ → List ℕ) (names : Names) (script : Prepared) (trace : Option Trace) (read : Result Script Ending) → IsPrepared content read (Ok script) → replay_at content names.replay ≡ Ok trace → IsPerformance content (read >>= with_replay content names.replay) (Ok (record { script = script; trace = trace }))
by-script content names script trace (Ok s) is has =
    subst (λ (r : Result Reading Ending). IsPerformance content r (Ok (record { script = script; trace = trace }))) (sym (reading-as content names.replay s trace has)) (is, refl)
by-script content names script trace (Err e) is has = absurd cc

by-script-not : (content : List ℕ → List ℕ) (names : Names) (script : Prepared) (e : Ending) (read : Result Script Ending) → IsPrepared content read (Ok script) → replay_at content names.replay ≡ Err e → IsPerformance content (read >>= with_replay content names.replay) (Err e)
by-script-not content names script e (Ok s) is none =
    subst (λ (r : Result Reading Ending). IsPerformance content r (Err e)) (sym (reading-not content names.replay s e none)) refl
by-script-not content names script e (Err other) is none = absurd cc

replay-is : (content : List ℕ → List ℕ) (replay : Option (List ℕ)) (name : List ℕ) (trace : Trace) → replay ≡ Some name → trace_at (content name) ≡ Ok trace → replay_at content replay ≡ Ok (Some trace)
replay-is content replay name trace some second =
    ap (replay_at content) some ∙ ap (λ (r : Result Trace Ending). r >>= (λ t. let read : Result (Option Trace) Ending = Ok (Some t) in read)) second

replay-not : (content : List ℕ → List ℕ) (replay : Option (List ℕ)) (name : List ℕ) (e : Ending) → replay ≡ Some name → trace_at (content name) ≡ Err e → replay_at content replay ≡ Err e
replay-not content replay name e some second =
    ap (replay_at content) some ∙ ap (λ (r : Result Trace Ending). r >>= (λ t. let read : Result (Option Trace) Ending = Ok (Some t) in read)) second

pub with-trace : (names : Names) (content : List ℕ → List ℕ) (script : Prepared) (name : List ℕ) (trace : Trace) → names.replay ≡ Some name → IsPrepared content (script_of_names content names) (Ok script) → trace_at (content name) ≡ Ok trace → IsPerformance content (reading_of content names) (Ok (record { script = script; trace = Some trace }))
with-trace names content script name trace some is second =
    by-script content names script (Some trace) (script_of_names content names) is (replay-is content names.replay name trace some second)

pub without-trace : (names : Names) (content : List ℕ → List ℕ) (script : Prepared) (name : List ℕ) (e : Ending) → names.replay ≡ Some name → IsPrepared content (script_of_names content names) (Ok script) → trace_at (content name) ≡ Err e → IsPerformance content (reading_of content names) (Err e)
without-trace names content script name e some is second =
    by-script-not content names script e (script_of_names content names) is (replay-not content names.replay name e some second)

pub script-alone : (names : Names) (content : List ℕ → List ℕ) (script : Prepared) → names.replay ≡ None → IsPrepared content (script_of_names content names) (Ok script) → IsPerformance content (reading_of content names) (Ok (record { script = script; trace = None }))
script-alone names content script none is =
    by-script content names script None (script_of_names content names) is (ap (replay_at content) none)

-- nothing is performed of a script that wasn't read
script-not : (content : List ℕ → List ℕ) (names : Names) (read : Result Script Ending) (performed : Result Performance Ending) (e : Ending) → read ≡ Err e → IsPerformance content (read >>= with_replay content names.replay) performed → performed ≡ Err e
script-not content names read performed e none is =
    subst (λ (r : Result Script Ending). IsPerformance content (r >>= with_replay content names.replay) performed) none is

pub script-ended : (content : List ℕ → List ℕ) (names : Names) (performed : Result Performance Ending) (e : Ending) → Gives {A = Script} (Err e) (script_of_names content names) → IsPerformance content (reading_of content names) performed → Gives (Err e) performed
script-ended content names performed (ending.Done refused) gives is = script-not content names _ performed _ gives is
script-ended content names performed ending.Usage gives is = script-not content names _ performed _ gives is
script-ended content names performed (ending.BadScript line rule) gives is = script-not content names _ performed _ gives is
script-ended content names performed ending.Fault gives is = tt
script-ended content names performed ending.OutOfMemory gives is = tt
script-ended content names performed (ending.Limit limit) gives is = script-not content names _ performed _ gives is
script-ended content names performed (ending.TraceDiffers line) gives is = script-not content names _ performed _ gives is

-- nor of one with a trace that wasn't read
trace-not : (content : List ℕ → List ℕ) (names : Names) (script : Prepared) (performed : Result Performance Ending) (e : Ending) (read : Result Script Ending) → IsPrepared content read (Ok script) → replay_at content names.replay ≡ Err e → IsPerformance content (read >>= with_replay content names.replay) performed → performed ≡ Err e
trace-not content names script performed e (Ok s) prepared none is =
    subst (λ (r : Result Reading Ending). IsPerformance content r performed) (reading-not content names.replay s e none) is
trace-not content names script performed e (Err other) prepared none is = absurd cc

pub trace-ended : (content : List ℕ → List ℕ) (names : Names) (script : Prepared) (name : List ℕ) (performed : Result Performance Ending) (e : Ending) → names.replay ≡ Some name → IsPrepared content (script_of_names content names) (Ok script) → Gives {A = Trace} (Err e) (trace_at (content name)) → IsPerformance content (reading_of content names) performed → Gives (Err e) performed
trace-ended content names script name performed (ending.Done refused) some prepared gives is = trace-not content names script performed _ _ prepared (replay-not content names.replay name _ some gives) is
trace-ended content names script name performed ending.Usage some prepared gives is = trace-not content names script performed _ _ prepared (replay-not content names.replay name _ some gives) is
trace-ended content names script name performed (ending.BadScript line rule) some prepared gives is = trace-not content names script performed _ _ prepared (replay-not content names.replay name _ some gives) is
trace-ended content names script name performed ending.Fault some prepared gives is = tt
trace-ended content names script name performed ending.OutOfMemory some prepared gives is = tt
trace-ended content names script name performed (ending.Limit limit) some prepared gives is = trace-not content names script performed _ _ prepared (replay-not content names.replay name _ some gives) is
trace-ended content names script name performed (ending.TraceDiffers line) some prepared gives is = trace-not content names script performed _ _ prepared (replay-not content names.replay name _ some gives) is

-- nothing else is performed
performed-same : (one other : Performance) → one.script ≡ other.script → one.trace ≡ other.trace → one ≡ other
performed-same one other script trace =
    ap (λ (s : Prepared). let p : Performance = record { script = s; trace = one.trace } in p) script
    ∙ ap (λ (t : Option Trace). let p : Performance = record { script = other.script; trace = t } in p) trace

only-as : (content : List ℕ → List ℕ) (names : Names) (script : Prepared) (trace : Option Trace) (performed : Result Performance Ending) (read : Result Script Ending) → IsPrepared content read (Ok script) → ((other : Result Prepared Ending) → IsPrepared content read other → other ≡ Ok script) → replay_at content names.replay ≡ Ok trace → IsPerformance content (read >>= with_replay content names.replay) performed → performed ≡ Ok (record { script = script; trace = trace })
only-as content names script trace performed (Err e) prepared only has is = absurd cc
only-as content names script trace performed (Ok s) prepared only has is =
    by_result performed (subst (λ (r : Result Reading Ending). IsPerformance content r performed) (reading-as content names.replay s trace has) is)
  where
    by_result : (r : Result Performance Ending) → IsPerformance content (Ok (record { script = s; trace = trace })) r → r ≡ Ok (record { script = script; trace = trace })
    by_result (Ok p) holds =
        let same : Ok p.script ≡ Ok script = only (Ok p.script) holds.0 in
        let script_is : p.script ≡ script = cc in
        ap Ok (performed-same p (record { script = script; trace = trace }) script_is holds.1)
    by_result (Err e) holds = absurd holds

pub only-alone : (content : List ℕ → List ℕ) (names : Names) (script : Prepared) (performed : Result Performance Ending) → names.replay ≡ None → IsPrepared content (script_of_names content names) (Ok script) → ((other : Result Prepared Ending) → IsPrepared content (script_of_names content names) other → other ≡ Ok script) → IsPerformance content (reading_of content names) performed → performed ≡ Ok (record { script = script; trace = None })
only-alone content names script performed none prepared only is =
    only-as content names script None performed (script_of_names content names) prepared only (ap (replay_at content) none) is

pub only-both : (content : List ℕ → List ℕ) (names : Names) (script : Prepared) (name : List ℕ) (trace : Trace) (performed : Result Performance Ending) → names.replay ≡ Some name → IsPrepared content (script_of_names content names) (Ok script) → ((other : Result Prepared Ending) → IsPrepared content (script_of_names content names) other → other ≡ Ok script) → trace_at (content name) ≡ Ok trace → IsPerformance content (reading_of content names) performed → performed ≡ Ok (record { script = script; trace = Some trace })
only-both content names script name trace performed some prepared only second is =
    only-as content names script (Some trace) performed (script_of_names content names) prepared only (replay-is content names.replay name trace some second) is
