-- What a run promises by its end, and by what is said of it.
use Rattle.std.proofs.Common.{◌≡◌, ◌⊎◌, ℕ, Bool, true, false, inl, inr, List, [], append-nil, length, take, Result, Ok, Err, Option, Some, None, IfSome, OnOk, refl, sym, ap, ◌∙◌}
use Rattle.std.proofs.Math.Seq.{take-length}
use Rattle.std.proofs.lemmas.Bool.{false≢true}
use Rattle.script_text.specs.Readings.{◌>>=◌}
use Rattle.xio.specs.Told.{Told}
use Rattle.xdp_tool.specs.Ending.{err_text, line_of, status_of}
use Rattle.xdp_tool.specs.Headline.{HoldsTrace, IsDecided, IsExplained, IsReplayed, is_decided, is_end, is_whole, out_of, said, trace_name, trace_of}
use Rattle.xdp_tool.specs.Named.{AreNames, Gives}
use Rattle.xdp_tool.specs.Outcome.{AreReplayed, Covers, IsPerformance, Reading, Whole, ended, ending_after, reading_of}
use Rattle.xdp_tool.specs.Plan.{has_refusal, plan}
use Rattle.xdp_tool.specs.Replay.{Covered}
use Rattle.xdp_tool.specs.Replaying.{IsReplayedTo}
use Rattle.xdp_tool.specs.Run.{ending_of}
use Rattle.xdp_tool.specs.Sinks.{FillsFile, FillsSink, IsTraced, IsTracedUpTo, LeavesOut, LeavesTrace, Performs}
use Rattle.command_line.specs.Names.{Names}
use Rattle.xdp_tool.specs.declared.ending.Ending.{Ending}
use Rattle.xdp_tool.specs.declared.ending.Ending.TheVariants as ending
use Rattle.xdp_tool.specs.declared.perform.Stop.{Stop}
use Rattle.xdp_tool.specs.declared.perform.Stop.TheVariants.{Differs, Fault, OutOfMemory}
use Rattle.xdp_tool.specs.declared.performance.Performance.{Performance}
use Rattle.xdp_tool.specs.declared.prepared.Prepared.{Prepared}
use Rattle.xdp_tool.specs.declared.replay.Trace.{Trace}

-- what was performed, by the trace that was replayed
ended-by : (script : Prepared) (trace : Option Trace) (choices : List (List (List ℕ))) (refused : Bool) → refused ≡ has_refusal (plan script) → IsReplayedTo {A = Bool} (Ok refused) script.library trace (plan script) choices → ending.Done refused ≡ ended script trace
ended-by script None choices refused is replayed = ap ending.Done is
ended-by script (Some trace) choices refused is replayed =
    rw (ap (λ (c : Covered). c.differs) replayed) (ap ending.Done is)

differs-by : (script : Prepared) (trace : Option Trace) (choices : List (List (List ℕ))) (line : ℕ) → IsReplayedTo {A = Bool} (Err (Differs line)) script.library trace (plan script) choices → ending.TraceDiffers line ≡ ended script trace
differs-by script None choices line replayed = absurd replayed
differs-by script (Some trace) choices line (rest, covered, is) = rw (ap (λ (c : Covered). c.differs) covered) (ap ending.TraceDiffers is)

pub decided-by : (performed : Performance) (choices : List (List (List ℕ))) (result : Result Bool Stop) → Performs performed choices result → is_decided (status_of (ending_of result)) ≡ true → ending_of result ≡ ending_after (Ok performed)
decided-by performed choices (Ok refused) performs decided = ended-by performed.script performed.trace choices refused performs.refused performs.replayed
decided-by performed choices (Err (Differs line)) performs decided = differs-by performed.script performed.trace choices line performs.replayed
decided-by performed choices (Err Fault) performs decided = absurd (false≢true decided)
decided-by performed choices (Err OutOfMemory) performs decided = absurd (false≢true decided)

-- its choices
covers-ended : (script : Prepared) (trace : Option Trace) (choices : List (List (List ℕ))) (refused : Bool) → length choices ≡ length (plan script) → IsReplayedTo {A = Bool} (Ok refused) script.library trace (plan script) choices → Covers script trace choices
covers-ended script None choices refused covered replayed = covered
covers-ended script (Some trace) choices refused covered replayed = sym (ap (λ (c : Covered). c.choices) replayed)

covers-differing : (script : Prepared) (trace : Option Trace) (choices : List (List (List ℕ))) (line : ℕ) → IsReplayedTo {A = Bool} (Err (Differs line)) script.library trace (plan script) choices → Covers script trace choices
covers-differing script None choices line replayed = absurd replayed
covers-differing script (Some trace) choices line (rest, covered, is) = sym (ap (λ (c : Covered). c.choices) covered)

front-whole : (choices all : List (List (List ℕ))) → all ≡ choices → (n : ℕ) × (choices ≡ take n all)
front-whole choices all same = (length choices, rw same (sym (take-length choices)))

are-replayed : (script : Prepared) (trace : Option Trace) (choices : List (List (List ℕ))) (result : Result Bool Stop) → IsReplayedTo result script.library trace (plan script) choices → AreReplayed script trace choices
are-replayed script None choices result replayed = tt
are-replayed script (Some trace) choices (Ok refused) replayed = front-whole choices _ (ap (λ (c : Covered). c.choices) replayed)
are-replayed script (Some trace) choices (Err (Differs line)) (rest, covered, is) = front-whole choices _ (ap (λ (c : Covered). c.choices) covered)
are-replayed script (Some trace) choices (Err Fault) replayed = replayed
are-replayed script (Some trace) choices (Err OutOfMemory) replayed = replayed

pub explained-by : (performed : Performance) (choices : List (List (List ℕ))) (result : Result Bool Stop) → Performs performed choices result → IsExplained (Ok performed) (status_of (ending_of result)) choices Whole
explained-by performed choices (Ok refused) performs = record {
  whole = λ decided. refl;
  covered = λ decided. covers-ended performed.script performed.trace choices refused performs.covered performs.replayed;
  replayed = are-replayed performed.script performed.trace choices (Ok refused) performs.replayed;
  legal = performs.legal;
}
explained-by performed choices (Err (Differs line)) performs = record {
  whole = λ decided. refl;
  covered = λ decided. covers-differing performed.script performed.trace choices line performs.replayed;
  replayed = are-replayed performed.script performed.trace choices (Err (Differs line)) performs.replayed;
  legal = performs.legal;
}
explained-by performed choices (Err Fault) performs = record {
  whole = λ decided. refl;
  covered = λ decided. absurd (false≢true decided);
  replayed = are-replayed performed.script performed.trace choices (Err Fault) performs.replayed;
  legal = performs.legal;
}
explained-by performed choices (Err OutOfMemory) performs = record {
  whole = λ decided. refl;
  covered = λ decided. absurd (false≢true decided);
  replayed = are-replayed performed.script performed.trace choices (Err OutOfMemory) performs.replayed;
  legal = performs.legal;
}

pub leaves-out : {S : Type 0} (held : S → List ℕ) (flushed : S → ℕ) (old new : S) (text : List ℕ) (performed : Result Bool Stop) → FillsSink held flushed old new text performed → LeavesOut held old new text (status_of (ending_of performed))
leaves-out held flushed old new text (Ok refused) fills = record { front = fills.front; whole = λ decided. fills.whole }
leaves-out held flushed old new text (Err (Differs line)) fills = record { front = fills.front; whole = λ decided. fills.whole }
leaves-out held flushed old new text (Err Fault) fills = record { front = fills.front; whole = λ decided. absurd (false≢true decided) }
leaves-out held flushed old new text (Err OutOfMemory) fills = record { front = fills.front; whole = λ decided. absurd (false≢true decided) }

pub flushed-ended : {F : Type 0} (performed : Result Bool Stop) → OnOk performed F → is_end (status_of (ending_of performed)) ≡ true → F
flushed-ended (Ok refused) all ended = all
flushed-ended (Err (Differs line)) all ended = absurd (false≢true ended)
flushed-ended (Err Fault) all ended = absurd (false≢true ended)
flushed-ended (Err OutOfMemory) all ended = absurd (false≢true ended)

-- a run that ended before its first line
early-is : (script : Result Performance Ending) (e : Ending) → Gives (Err e) script → is_decided (status_of e) ≡ true → script ≡ Err e
early-is script (ending.Done refused) prepares decided = prepares
early-is script ending.Usage prepares decided = prepares
early-is script (ending.BadScript line rule) prepares decided = prepares
early-is script ending.Fault prepares decided = absurd (false≢true decided)
early-is script ending.OutOfMemory prepares decided = absurd (false≢true decided)
early-is script (ending.Limit name) prepares decided = prepares
early-is script (ending.TraceDiffers line) prepares decided = prepares

pub leaves-early : {S : Type 0} (held : S → List ℕ) (old new : S) (script : Result Performance Ending) (e : Ending) (choices : List (List (List ℕ))) → Gives (Err e) script → held new ≡ held old → LeavesOut held old new (out_of script Whole choices) (status_of e)
leaves-early held old new script e choices prepares same = record {
  front = (0, same ∙ sym (append-nil (held old)));
  whole = λ decided. rw (early-is script e prepares decided) (same ∙ sym (append-nil (held old)));
}

-- words that aren't taken, or want memory
not-read : (content : List ℕ → List ℕ) (read : Result Reading Ending) (script : Result Performance Ending) (e : Ending) → read ≡ Err e → IsPerformance content read script → script ≡ Err e
not-read content read script e is prepared = rw is at prepared

pub words-early : (names : Result Names Ending) (content : List ℕ → List ℕ) (script : Result Performance Ending) (e : Ending) → AreNames (Err e) names → IsPerformance content (names >>= reading_of content) script → Gives (Err e) script
words-early names content script (ending.Done refused) none is = not-read content _ script _ (ap (λ taken. taken >>= reading_of content) none) is
words-early names content script ending.Usage none is = not-read content _ script _ (ap (λ taken. taken >>= reading_of content) none) is
words-early names content script (ending.BadScript line rule) none is = not-read content _ script _ (ap (λ taken. taken >>= reading_of content) none) is
words-early names content script ending.Fault none is = tt
words-early names content script ending.OutOfMemory none is = tt
words-early names content script (ending.Limit name) none is = not-read content _ script _ (ap (λ taken. taken >>= reading_of content) none) is
words-early names content script (ending.TraceDiffers line) none is = not-read content _ script _ (ap (λ taken. taken >>= reading_of content) none) is

pub decided-early : (script : Result Performance Ending) (e : Ending) → Gives (Err e) script → is_decided (status_of e) ≡ true → e ≡ ending_after script
decided-early script e prepares decided = sym (ap ending_after (early-is script e prepares decided))

none-of-trace : (script : Prepared) (trace : Option Trace) → AreReplayed script trace []
none-of-trace script None = tt
none-of-trace script (Some trace) = (0, refl)

none-replayed : (script : Result Performance Ending) → IsReplayed script []
none-replayed (Ok performed) = none-of-trace performed.script performed.trace
none-replayed (Err e) = refl

pub explained-early : (script : Result Performance Ending) (e : Ending) (choices : List (List (List ℕ))) → choices ≡ [] → Gives (Err e) script → IsExplained script (status_of e) choices Whole
explained-early script e choices none prepares = rw none (record {
  whole = λ decided. refl;
  covered = λ decided. rw (early-is script e prepares decided) refl;
  replayed = none-replayed script;
  legal = tt;
})

-- what is said of a run is how it ended, or that memory was wanting for it
pub told-decided : (told e : Ending) → (told ≡ e) ⊎ (told ≡ ending.OutOfMemory) → is_decided (status_of told) ≡ true → told ≡ e
told-decided told e (inl same) decided = same
told-decided told e (inr none) decided = absurd (false≢true (sym (ap (λ t. is_decided (status_of t)) none) ∙ decided))

pub told-end : (told e : Ending) → (told ≡ e) ⊎ (told ≡ ending.OutOfMemory) → is_end (status_of told) ≡ true → is_end (status_of e) ≡ true
told-end told e (inl same) ended = sym (ap (λ t. is_end (status_of t)) same) ∙ ended
told-end told e (inr none) ended = absurd (false≢true (sym (ap (λ t. is_end (status_of t)) none) ∙ ended))

pub explained-told : (script : Result Performance Ending) (choices : List (List (List ℕ))) (told e : Ending) → (told ≡ e) ⊎ (told ≡ ending.OutOfMemory) → IsExplained script (status_of e) choices Whole → IsExplained script (status_of told) choices Whole
explained-told script choices told e (inl same) explained = rw same explained
explained-told script choices told e (inr none) explained = record {
  whole = λ decided. refl;
  replayed = explained.replayed;
  covered = λ decided. absurd (false≢true (sym (ap (λ t. is_decided (status_of t)) none) ∙ decided));
  legal = explained.legal;
}

-- what is said on err is the text of what is told
pub said-told : (script : Result Performance Ending) (told : Ending) → (is_decided (status_of told) ≡ true → told ≡ ending_after script) → said script (status_of told) ≡ err_text told
said-told script (ending.Done true) is = ap err_text (sym (is refl))
said-told script (ending.Done false) is = ap err_text (sym (is refl))
said-told script ending.Usage is = ap err_text (sym (is refl))
said-told script (ending.BadScript line rule) is = ap err_text (sym (is refl))
said-told script ending.Fault is = refl
said-told script ending.OutOfMemory is = refl
said-told script (ending.Limit name) is = ap err_text (sym (is refl))
said-told script (ending.TraceDiffers line) is = ap err_text (sym (is refl))

-- the parts of what a run leaves in the trace
pub trace-front : (old new : Told) (text : List ℕ) (status : ℕ) (name : Option (List ℕ)) → IfSome name (LeavesTrace old new text status) → IfSome name (IsTracedUpTo old new text)
trace-front old new text status (Some name) leaves = leaves.front
trace-front old new text status None leaves = tt

pub trace-whole : (old new : Told) (text : List ℕ) (status : ℕ) (name : Option (List ℕ)) → is_end status ≡ true → IfSome name (LeavesTrace old new text status) → IfSome name (IsTraced new text)
trace-whole old new text status (Some name) ended leaves = leaves.whole ended
trace-whole old new text status None ended leaves = tt

-- a trace that was made is whole where a script was run to an end
trace-ended : (new : Told) (text : List ℕ) (old : Told) (result : Result Bool Stop) (name : Option (List ℕ)) → is_whole (status_of (ending_of result)) ≡ true → IfSome name (FillsFile old new text result) → IfSome name (λ n. new.content n ≡ text)
trace-ended new text old result None whole fills = tt
trace-ended new text old (Ok refused) (Some name) whole fills = fills.content
trace-ended new text old (Err (Differs line)) (Some name) whole fills = fills.content
trace-ended new text old (Err Fault) (Some name) whole fills = absurd (false≢true whole)
trace-ended new text old (Err OutOfMemory) (Some name) whole fills = absurd (false≢true whole)

pub holds-ended : (names : Result Names Ending) (performed : Performance) (old new : Told) (choices : List (List (List ℕ))) (result : Result Bool Stop) → is_whole (status_of (ending_of result)) ≡ true → IfSome (trace_name names) (FillsFile old new (trace_of (Ok performed) Whole choices) result) → HoldsTrace names (Ok performed) new choices
holds-ended names performed old new choices result whole fills = trace-ended new (trace_of (Ok performed) Whole choices) old result (trace_name names) whole fills

whole-decided : (e : Ending) → is_whole (status_of e) ≡ true → is_decided (status_of e) ≡ true
whole-decided (ending.Done true) whole = refl
whole-decided (ending.Done false) whole = refl
whole-decided ending.Usage whole = refl
whole-decided (ending.BadScript line rule) whole = refl
whole-decided ending.Fault whole = absurd (false≢true whole)
whole-decided ending.OutOfMemory whole = absurd (false≢true whole)
whole-decided (ending.Limit name) whole = refl
whole-decided (ending.TraceDiffers line) whole = refl

pub holds-early : (names : Result Names Ending) (script : Result Performance Ending) (e : Ending) (told : Told) (choices : List (List (List ℕ))) → Gives (Err e) script → is_whole (status_of e) ≡ true → HoldsTrace names script told choices
holds-early names script e told choices prepares whole = rw (early-is script e prepares (whole-decided e whole)) tt

pub told-whole : (told e : Ending) → (told ≡ e) ⊎ (told ≡ ending.OutOfMemory) → is_whole (status_of told) ≡ true → is_whole (status_of e) ≡ true
told-whole told e (inl same) whole = sym (ap (λ t. is_whole (status_of t)) same) ∙ whole
told-whole told e (inr none) whole = absurd (false≢true (sym (ap (λ t. is_whole (status_of t)) none) ∙ whole))

pub decided-told : (script : Result Performance Ending) (told e : Ending) → (told ≡ e) ⊎ (told ≡ ending.OutOfMemory) → (is_decided (status_of e) ≡ true → e ≡ ending_after script) → is_decided (status_of told) ≡ true → IsDecided script (status_of told) (line_of told)
decided-told script told e same after decided =
    let is = told-decided told e same decided in
    let ends : told ≡ ending_after script = is ∙ after (sym (ap (λ t. is_decided (status_of t)) is) ∙ decided) in
    record { status_is = ap status_of ends; line_is = ap line_of ends }
