-- Whether a file that is replayed is the trace of a run.
use Rattle.std.proofs.Common.{◌≡◌, ℕ, ◌+◌, ◌^◌, ◌<◌, ◌==◌, ◌&&◌, ◌||◌, Bool, true, false, List, [], ◌∷◌, ◌++◌, length, drop, map, Option, Some, None, IfSome, Result, Ok, Err, IfOk, codes, refl, sym, ap, ◌∙◌, arith, inl, inr}
use Rattle.std.specs.Prelude.{if◌then◌else◌, nat_lt, slice_index_or}
use Rattle.std.specs.List.{join_with_byte}
use Rattle.std.specs.Str.{bytes_eq}
use Rattle.std.proofs.lemmas.Bool.{cases_Bool, false≢true}
use Rattle.std.proofs.lemmas.Bool.Decides.{nat_tests}
use Rattle.std.proofs.lemmas.List.{length-replicate}
use Rattle.std.proofs.lemmas.List.Splits.{join_with_byte-slice_split}
use Rattle.std.proofs.lemmas.Slice.Eq.{bytes_eq-Decides}
use Rattle.command_line.specs.Names.{Names}
use Rattle.script_text.proofs.TraceBack.{traces_back}
use Rattle.script_text.specs.Trace.{first_line, last_line, phases_trace, whole_trace}
use Rattle.script_text.specs.TraceRead.{counts_in, read_first, trace_read}
use Rattle.script_text.specs.Words.{parts_of}
use Rattle.script_text.specs.declared.what.Line.{Line}
use Rattle.script_text.specs.declared.what.What.{What}
use Rattle.script_text.specs.declared.what.What.TheVariants as what
use Rattle.xdp_state.specs.Answer.{answer}
use Rattle.xdp_state.specs.Book.{after}
use Rattle.xdp_state.specs.Legal.{lasts_of}
use Rattle.xdp_state.specs.Standing.{Standing}
use Rattle.xdp_state.specs.Traversals.{standings_in, traversals}
use Rattle.xdp_state.specs.declared.judgement.Judgement.{Judgement}
use Rattle.xdp_state.specs.declared.judgement.Judgement.TheVariants.{Accepted, Shown, Refused}
use Rattle.xdp_state.specs.declared.library.Library.{Library}
use Rattle.xio.specs.Told.{Told}
use Rattle.xdp_tool.proofs.Due.{length-standing}
use Rattle.xdp_tool.proofs.LegalTraces.{AreFor, legal-covered, traces-whole}
use Rattle.xdp_tool.proofs.Phases.{length-traversals}
use Rattle.xdp_tool.proofs.Performing.{with-trace, without-trace}
use Rattle.xdp_tool.proofs.SameTrace.{AreEnded, behind-line, covered-text, covers-next, either, plan-ended}
use Rattle.xdp_tool.proofs.Walking.{length-handed}
use Rattle.xdp_tool.specs.Ending.{status_of}
use Rattle.xdp_tool.specs.Headline.{IsDecided, IsExplained, OnReplayed, IsPreparedBy, is_decided, is_end}
use Rattle.xdp_tool.specs.Outcome.{Cut, IsPrepared, Whole, covered_by, ended_at, or_differs, script_of_names, trace_at}
use Rattle.xdp_tool.specs.Plan.{Phase, closed, hand_in, has_refusal, is_barrier, next_of, opened, phases_from, plan, with_answer, with_what, works_of}
use Rattle.xdp_tool.specs.Queues.{queues_of}
use Rattle.xdp_tool.specs.Replay.{Covered, Replayed, covered_from, replayed}
use Rattle.xdp_tool.specs.Table.{table_of}
use Rattle.xdp_tool.specs.declared.table.Table.{Table}
use Rattle.xdp_tool.specs.Trace.{traces_from}
use Rattle.xdp_tool.specs.TraceOf.{CanBeTraced, IsNoTrace, IsTraceOf}
use Rattle.xdp_tool.specs.Traversed.{standings_of}
use Rattle.xdp_tool.specs.declared.ending.Ending.{Ending}
use Rattle.xdp_tool.specs.declared.ending.Ending.TheVariants.{Done, Limit, TraceDiffers}
use Rattle.xdp_tool.specs.declared.ending.LimitName.TheVariants as limit
use Rattle.xdp_tool.specs.declared.performance.Performance.{Performance}
use Rattle.xdp_tool.specs.declared.prepared.Prepared.{Prepared}
use Rattle.xdp_tool.specs.declared.replay.Trace.{Trace}

-- a trace that is read begins with the first line
first-parts : (parts : List (List ℕ)) (has : List (List (List ℕ))) → read_first parts ≡ Ok has → (more : List ℕ) × (join_with_byte 10 parts ≡ first_line ++ more)
first-parts [] has read = absurd cc
first-parts (part ∷ []) has read = absurd cc
first-parts (part ∷ next ∷ parts) has read =
    let some : (length (next ∷ parts) == 0) ≡ false = grind (arith, nat_tests) in
    elim (cases_Bool (bytes_eq part (codes "xdptrace 1"))) [
      | inl same ↦
          let is : part ≡ codes "xdptrace 1" = (bytes_eq-Decides part (codes "xdptrace 1")).0 same in
          (join_with_byte 10 (next ∷ parts), rw is refl)
      | inr differs ↦ absurd (let wrong = rw (some, differs) at read in cc)
    ]

first-is : (text : List ℕ) (has : List (List (List ℕ))) → trace_read text ≡ Ok has → text ≡ first_line ++ drop (length first_line) text
unfolding trace_read
first-is text has read =
    let first = first-parts (parts_of 10 text) has read in
    let is : text ≡ first_line ++ first.0 = sym (join_with_byte-slice_split 10 text) ∙ first.1 in
    is ∙ ap (λ more. first_line ++ more) (sym (ap (drop (length first_line)) is ∙ behind-line first_line first.0))

-- the phases of a plan
answered-for : (line : ℕ) (table : Table) (judged : Judgement) (phase : Phase) → length (with_answer line table judged phase).work.hand_ins ≡ length phase.work.hand_ins
answered-for line table (Accepted change) phase = refl
answered-for line table Shown phase = refl
answered-for line table (Refused reason) phase = refl

what-for : (library : Library) (line : ℕ) (asked : What) (phase : Phase) → length (with_what library line asked phase).work.hand_ins ≡ length phase.work.hand_ins
what-for library line (what.Command command) phase = answered-for line (table_of library command) (answer library (after phase.work.published) command) phase
what-for library line (what.Packet processor frame) phase = length-handed processor (hand_in line frame phase) phase.work.hand_ins
what-for library line what.Barrier phase = refl

plan-for : (library : Library) (phase : Phase) (lines : List Line) → length phase.work.hand_ins ≡ length (queues_of library.interfaces) → AreFor (length (queues_of library.interfaces)) (phases_from library phase lines)
plan-for library phase [] same = (same, tt)
plan-for library phase (line ∷ lines) same =
    either (AreFor (length (queues_of library.interfaces))) (is_barrier line.what) (closed (Some line.line) phase ∷ phases_from library (next_of library phase) lines)
    (phases_from library (with_what library line.line line.what phase) lines)
    (same, plan-for library (next_of library phase) lines (length-replicate (length (queues_of library.interfaces)) _))
    (plan-for library (with_what library line.line line.what phase) lines (what-for library line.line line.what phase ∙ same))

-- each phase of a plan that is covered has its counts
length-covered : (library : Library) (has : List (List (List ℕ))) (phases : List Phase) (number : ℕ) (standings : List Standing) (lasts rest : List ℕ) (choices : List (List (List ℕ))) → covered_from library has number standings lasts rest phases ≡ record { choices = choices; differs = None } → length choices ≡ length phases
length-covered library has [] number standings lasts rest choices is = sym (ap (λ (c : Covered). length c.choices) is)
length-covered library has (phase ∷ phases) number standings lasts rest choices is =
    let this = replayed library number standings phase lasts rest (slice_index_or has number []) in
    let after = standings_in library phase.work.published standings phase.work.hand_ins this.counts in
    let covers = covers-next this (λ (this : Replayed). covered_from library has (number + 1) (standings_in library phase.work.published standings phase.work.hand_ins this.counts) (lasts_of lasts this.counts) this.rest phases) choices is in
    let more = length-covered library has phases (number + 1) after (lasts_of lasts this.counts) this.rest covers.others covers.behind in
    omega (arith, ap length covers.choices_are, more)

-- the trace of a text, and how the reading of one ends
read-as : (text : List ℕ) (read : Result (List (List (List ℕ))) ℕ) (trace : Trace) → or_differs text read ≡ Ok trace → (trace.text ≡ text) × (read ≡ Ok trace.choices)
read-as text (Ok choices) trace is =
    let same : record { text = text; choices = choices } ≡ trace = cc in
    (sym (ap (λ (t : Trace). t.text) same), ap (λ (t : Trace). Ok t.choices) same)
read-as text (Err line) trace is = absurd cc

trace-is : (text : List ℕ) (trace : Trace) → trace_at text ≡ Ok trace → (trace.text ≡ text) × (trace_read text ≡ Ok trace.choices)
trace-is text trace is = by_size (nat_lt 201326592 (length text)) is
  where
    by_size : (large : Bool) → (if large then Err (Limit limit.Trace) else or_differs text (trace_read text)) ≡ Ok trace → (trace.text ≡ text) × (trace_read text ≡ Ok trace.choices)
    by_size true is = absurd cc
    by_size false is = read-as text (trace_read text) trace is

pub data Unread (text : List ℕ) (ending : Ending) : Type 0 where
  too_large : ending ≡ Limit limit.Trace → Unread text ending
  differs : (line : ℕ) → ending ≡ TraceDiffers line → trace_read text ≡ Err line → Unread text ending

differs-as : (text : List ℕ) (read : Result (List (List (List ℕ))) ℕ) (ending : Ending) → or_differs text read ≡ Err ending → trace_read text ≡ read → Unread text ending
differs-as text (Ok choices) ending is reads = absurd cc
differs-as text (Err line) ending is reads = let same : ending ≡ TraceDiffers line = cc in differs line same reads

trace-not : (text : List ℕ) (ending : Ending) → trace_at text ≡ Err ending → Unread text ending
trace-not text ending is = by_size (nat_lt 201326592 (length text)) is
  where
    by_size : (large : Bool) → (if large then Err (Limit limit.Trace) else or_differs text (trace_read text)) ≡ Err ending → Unread text ending
    by_size true is = too_large cc
    by_size false is = differs-as text (trace_read text) ending is refl

-- a replay that runs to the script's end
ends-none : (script : Prepared) (trace : Trace) (differs : Option (List ℕ)) → is_end (status_of (ended_at script trace differs)) ≡ true → differs ≡ None
ends-none script trace None ended = refl
ends-none script trace (Some rest) ended = absurd (false≢true ended)

pub end-decided : (status : ℕ) → is_end status ≡ true → is_decided status ≡ true
end-decided status ended = elim (cases_Bool (status == 0)) [
  | inl zero_is ↦ rw zero_is refl
  | inr other ↦ let one : (status == 1) ≡ true = rw other at ended in rw (other, one) refl
]

run-of : (script : Prepared) (trace : Trace) (text : List ℕ) (status line : ℕ) (choices : List (List (List ℕ))) (cut : Cut) → trace.text ≡ text → trace_read text ≡ Ok trace.choices → IsDecided (Ok (record { script = script; trace = Some trace })) status line → IsExplained (Ok (record { script = script; trace = Some trace })) status choices cut → is_end status ≡ true → IsTraceOf script choices text
run-of script trace text status line choices cut same read decided explained ended =
    let standings = standings_of (queues_of script.library.interfaces) in
    let covered = covered_by script trace in
    let none : covered.differs ≡ None = ends-none script trace covered.differs (sym (ap is_end decided.status_is) ∙ ended) in
    let theirs : choices ≡ covered.choices = explained.covered (end-decided status ended) in
    let full : covered ≡ record { choices = choices; differs = None } = ap (λ (d : Option (List ℕ)). let c : Covered = record { choices = covered.choices; differs = d } in c) none
    ∙ ap (λ (cs : List (List (List ℕ))). let c : Covered = record { choices = cs; differs = None } in c) (sym theirs) in
    let unclosed = plan-ended script.library (opened (length (queues_of script.library.interfaces)) [] 0) script.lines refl in
    let behind = covered-text script.library trace.choices (plan script) 0 standings [] (drop (length first_line) trace.text) choices unclosed full in
    let begins : text ≡ first_line ++ drop (length first_line) text = first-is text trace.choices read in
    record {
      legal = rw (explained.whole (end-decided status ended)) at explained.legal;
      whole = length-covered script.library trace.choices (plan script) 0 standings [] (drop (length first_line) trace.text) choices full;
      text_is = begins ∙ (ap (λ t. first_line ++ drop (length first_line) t) (sym same) ∙ ap (λ more. first_line ++ more) behind);
    }

-- the trace of a run is read as its counts, and is covered
traced-read : (script : Prepared) (text : List ℕ) (choices : List (List (List ℕ))) → CanBeTraced script choices → IsTraceOf script choices text → trace_read text ≡ Ok (map counts_in (traversals script.library (standings_of (queues_of script.library.interfaces)) (works_of (plan script)) choices))
traced-read script text choices can is =
    let standings = standings_of (queues_of script.library.interfaces) in
    let carried = traversals script.library standings (works_of (plan script)) choices in
    let many : length carried ≡ length (plan script) = length-traversals script.library standings (plan script) choices is.whole in
    let unclosed = plan-ended script.library (opened (length (queues_of script.library.interfaces)) [] 0) script.lines refl in
    let whole : text ≡ whole_trace carried = is.text_is ∙ ap (λ t. first_line ++ t) (traces-whole 0 (plan script) carried unclosed many) in
    let few : length carried < 2 ^ 32 = rw (many, ← is.whole) can.phases in
    ap trace_read whole ∙ traces_back carried few can.packets

run-covered : (script : Prepared) (trace : Trace) (text : List ℕ) (choices : List (List (List ℕ))) → trace.text ≡ text → trace_read text ≡ Ok trace.choices → CanBeTraced script choices → IsTraceOf script choices text → (covered_by script trace).differs ≡ None
run-covered script trace text choices same read can is =
    let standings = standings_of (queues_of script.library.interfaces) in
    let phases = plan script in
    let unclosed = plan-ended script.library (opened (length (queues_of script.library.interfaces)) [] 0) script.lines refl in
    let queues : length standings ≡ length (queues_of script.library.interfaces) = length-standing 0 (queues_of script.library.interfaces) in
    let fits : AreFor (length standings) phases = rw queues (plan-for script.library (opened (length (queues_of script.library.interfaces)) [] 0) script.lines (length-replicate (length (queues_of script.library.interfaces)) _)) in
    let back = traced-read script text choices can is in
    let has : trace.choices ≡ map counts_in (traversals script.library standings (works_of phases) choices) = let both = sym read ∙ back in cc in
    let behind : drop (length first_line) trace.text ≡ traces_from 0 phases (traversals script.library standings (works_of phases) choices) =
    ap (drop (length first_line)) (same ∙ is.text_is) ∙ behind-line first_line (traces_from 0 phases (traversals script.library standings (works_of phases) choices)) in
    ap (λ (c : Covered). c.differs) (legal-covered script.library trace.choices phases 0 standings [] (drop (length first_line) trace.text) choices unclosed fits is.legal is.whole has behind)

-- status 6 comes of no trace of a run
done-not-six : {G : Type 0} (refused : Bool) → 6 ≡ status_of (Done refused) → G
done-not-six true is = absurd cc
done-not-six false is = absurd cc

no-run : (script : Prepared) (trace : Trace) (text : List ℕ) (line : ℕ) → trace.text ≡ text → trace_read text ≡ Ok trace.choices → IsDecided (Ok (record { script = script; trace = Some trace })) 6 line → IsNoTrace script text
no-run script trace text line same read decided = λ choices can is.
    done-not-six (has_refusal (plan script)) (decided.status_is ∙ ap (λ d. status_of (ended_at script trace d)) (run-covered script trace text choices same read can is))

unread-ends : (text : List ℕ) (ending : Ending) → Unread text ending → is_end (status_of ending) ≡ false
unread-ends text ending (too_large is) = rw is refl
unread-ends text ending (differs line is read) = rw is refl

unread-no-run : (script : Prepared) (text : List ℕ) (ending : Ending) → Unread text ending → 6 ≡ status_of ending → IsNoTrace script text
unread-no-run script text ending (too_large is) six = absurd (let wrong : 6 ≡ 5 = six ∙ ap status_of is in cc)
unread-no-run script text ending (differs line is read) six = λ choices can run.
    absurd (let wrong = sym read ∙ traced-read script text choices can run in cc)

-- the script of a reading and its trace are what is performed
pub replayed-run : (names : Result Names Ending) (told : Told) (status line : ℕ) (choices : List (List (List ℕ))) (cut : Cut) → ((script : Result Performance Ending) → IsPreparedBy names told script → IsDecided script status line) → ((script : Result Performance Ending) → IsPreparedBy names told script → IsExplained script status choices cut) → is_end status ≡ true → OnReplayed names told (λ script text. IsTraceOf script choices text)
replayed-run (Err e) told status line choices cut decided explained ended = tt
replayed-run (Ok names) told status line choices cut decided explained ended = by_name names.replay refl
  where
    by_trace : (script : Prepared) (name : List ℕ) (trace : Result Trace Ending) → names.replay ≡ Some name → IsPrepared told.content (script_of_names told.content names) (Ok script) → trace_at (told.content name) ≡ trace → IsTraceOf script choices (told.content name)
    by_trace script name (Ok trace) some is second =
        let prepared = with-trace names told.content script name trace some is second in
        let reads = trace-is (told.content name) trace second in
        run-of script trace (told.content name) status line choices cut reads.0 reads.1 (decided (Ok (record { script = script; trace = Some trace })) prepared) (explained (Ok (record { script = script; trace = Some trace })) prepared) ended
    by_trace script name (Err e) some is second =
        let prepared = without-trace names told.content script name e some is second in
        absurd (false≢true (sym (unread-ends (told.content name) e (trace-not (told.content name) e second)) ∙ (sym (ap is_end (decided (Err e) prepared).status_is) ∙ ended)))

    by_name : (replay : Option (List ℕ)) → names.replay ≡ replay → IfSome replay (λ name. (script : Prepared) → IsPrepared told.content (script_of_names told.content names) (Ok script) → IsTraceOf script choices (told.content name))
    by_name None none = tt
    by_name (Some name) some = λ script is. by_trace script name (trace_at (told.content name)) some is refl

pub replayed-differs : (names : Result Names Ending) (told : Told) (line : ℕ) → ((script : Result Performance Ending) → IsPreparedBy names told script → IsDecided script 6 line) → OnReplayed names told IsNoTrace
replayed-differs (Err e) told line decided = tt
replayed-differs (Ok names) told line decided = by_name names.replay refl
  where
    by_trace : (script : Prepared) (name : List ℕ) (trace : Result Trace Ending) → names.replay ≡ Some name → IsPrepared told.content (script_of_names told.content names) (Ok script) → trace_at (told.content name) ≡ trace → IsNoTrace script (told.content name)
    by_trace script name (Ok trace) some is second =
        let prepared = with-trace names told.content script name trace some is second in
        let reads = trace-is (told.content name) trace second in
        no-run script trace (told.content name) line reads.0 reads.1 (decided (Ok (record { script = script; trace = Some trace })) prepared)
    by_trace script name (Err e) some is second =
        let prepared = without-trace names told.content script name e some is second in
        unread-no-run script (told.content name) e (trace-not (told.content name) e second) (decided (Err e) prepared).status_is

    by_name : (replay : Option (List ℕ)) → names.replay ≡ replay → IfSome replay (λ name. (script : Prepared) → IsPrepared told.content (script_of_names told.content names) (Ok script) → IsNoTrace script (told.content name))
    by_name None none = tt
    by_name (Some name) some = λ script is. by_trace script name (trace_at (told.content name)) some is refl
