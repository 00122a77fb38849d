-- What sinks hold once a run has flushed them.
use Rattle.std.proofs.Common.{◌≡◌, ◌⊎◌, ℕ, inl, inr, Bool, List, [], ◌++◌, length, append_assoc, take, IsTrue, OnOk, Result, Ok, Err, ap, ◌∙◌}
use Rattle.std.specs.Prelude.{if◌then◌else◌}
use Rattle.xio.proofs.PrefixLemmas.{prefix_more}
use Rattle.xio.specs.Prefixes.{AppendsPrefix}
use Rattle.xdp_state.specs.declared.library.Library.{Library}
use Rattle.xdp_tool.proofs.Running.{prefix-whole, trace-joined, trace-split}
use Rattle.xdp_tool.proofs.ReplayLemmas.{replay-unflushed}
use Rattle.xdp_tool.specs.Order.{AppendsWhole}
use Rattle.xdp_tool.specs.PhaseEnd.{StopsText}
use Rattle.xdp_tool.specs.Plan.{Phase}
use Rattle.xdp_tool.specs.Sinks.{FillsSink, IsUnbegun, Performs}
use Rattle.script_text.specs.Trace.{first_line}
use Rattle.xdp_tool.specs.Traversed.{trace_for, traces_for}
use Rattle.xdp_tool.specs.declared.perform.Stop.{Stop}
use Rattle.xdp_tool.specs.declared.perform.Stop.TheVariants.{Differs, Fault, OutOfMemory}
use Rattle.xdp_tool.specs.declared.performance.Performance.{Performance}

puts-prefix : {A : Type 0} (worked : Result A Stop) (old new text : List ℕ) → StopsText worked old new text → AppendsPrefix old new text
puts-prefix (Ok x) old new text put = prefix-whole old new text put
puts-prefix (Err (Differs line)) old new text put = prefix-whole old new text put
puts-prefix (Err Fault) old new text put = put
puts-prefix (Err OutOfMemory) old new text put = put

-- a trace's first line, and then its phases
joined-front : (traced : Bool) (library : Library) (phases : List Phase) (choices : List (List (List ℕ))) (old begun new : List ℕ) → begun ≡ old ++ (if traced then first_line else []) → AppendsPrefix begun new (traces_for traced library phases choices) → AppendsPrefix old new (trace_for traced library phases choices)
joined-front traced library phases choices old begun new first put =
    rw (trace-split traced library phases choices) (prefix_more _ _ _ _ (rw first at put))

pub puts-joined : (traced : Bool) (library : Library) (phases : List Phase) (choices : List (List (List ℕ))) (worked : Result Bool Stop) (old begun new : List ℕ) → begun ≡ old ++ (if traced then first_line else []) → StopsText worked begun new (traces_for traced library phases choices) → StopsText worked old new (trace_for traced library phases choices)
puts-joined traced library phases choices (Ok x) old begun new first put = trace-joined traced library phases choices old begun new first put
puts-joined traced library phases choices (Err (Differs line)) old begun new first put = trace-joined traced library phases choices old begun new first put
puts-joined traced library phases choices (Err Fault) old begun new first put = joined-front traced library phases choices old begun new first put
puts-joined traced library phases choices (Err OutOfMemory) old begun new first put = joined-front traced library phases choices old begun new first put

begun-whole : (old first begun new text : List ℕ) → begun ≡ old ++ first → new ≡ begun ++ text → AppendsWhole old new first
begun-whole old first begun new text is put = (text, put ∙ ap (λ b. b ++ text) is ∙ append_assoc old first text)

pub puts-begun : {A : Type 0} (worked : Result A Stop) (old first begun new text : List ℕ) → begun ≡ old ++ first → StopsText worked begun new text → AppendsWhole old new first
puts-begun (Ok x) old first begun new text is put = begun-whole old first begun new text is put
puts-begun (Err (Differs line)) old first begun new text is put = begun-whole old first begun new text is put
puts-begun (Err Fault) old first begun new text is (n, put) = begun-whole old first begun new (take n text) is put
puts-begun (Err OutOfMemory) old first begun new text is (n, put) = begun-whole old first begun new (take n text) is put

-- a run that stopped
stopped : {S : Type 0} (held : S → List ℕ) (flushed : S → ℕ) (old middle new : S) (text : List ℕ) (stop : Stop) → StopsText {A = Bool} (Err stop) (held old) (held middle) text → held new ≡ held middle → FillsSink {A = Bool} held flushed old new text (Err stop)
stopped held flushed old middle new text (Differs line) put same =
    record { front = prefix-whole _ _ _ (same ∙ put); whole = same ∙ put; all_flushed = tt }
stopped held flushed old middle new text Fault put same = record { front = rw same put; whole = tt; all_flushed = tt }
stopped held flushed old middle new text OutOfMemory put same = record { front = rw same put; whole = tt; all_flushed = tt }

pub fills-stopped : {S : Type 0} (held : S → List ℕ) (flushed : S → ℕ) (old middle new : S) (text : List ℕ) (worked : Result Bool Stop) (stop : Stop) → worked ≡ Err stop → StopsText worked (held old) (held middle) text → held new ≡ held middle → FillsSink {A = Bool} held flushed old new text (Err stop)
fills-stopped held flushed old middle new text worked stop is put same =
    stopped held flushed old middle new text stop (rw is at put) same

-- one that came to its end, and couldn't flush all
pub fills-unflushed : {S : Type 0} (held : S → List ℕ) (flushed : S → ℕ) (old middle new : S) (text : List ℕ) (worked : Result Bool Stop) (refused : Bool) → worked ≡ Ok refused → StopsText worked (held old) (held middle) text → held new ≡ held middle → FillsSink {A = Bool} held flushed old new text (Err Fault)
fills-unflushed held flushed old middle new text worked refused is put same =
    record { front = prefix-whole _ _ _ (same ∙ (rw is at put)); whole = tt; all_flushed = tt }

-- one that came to its end
pub fills-ended : {S E : Type 0} (held : S → List ℕ) (flushed : S → ℕ) (old middle new : S) (text : List ℕ) (worked : Result Bool Stop) (settled : Result Unit E) (refused : Bool) → worked ≡ Ok refused → settled ≡ Ok tt → StopsText worked (held old) (held middle) text → held new ≡ held middle → OnOk settled (flushed new ≡ length (held new)) → FillsSink held flushed old new text (Ok refused)
fills-ended held flushed old middle new text worked settled refused is flushes put same all =
    let whole = same ∙ (rw is at put) in record { front = prefix-whole _ _ _ whole; whole = whole; all_flushed = rw flushes at all }

pub performs-unflushed : (performed : Performance) (choices : List (List (List ℕ))) (worked : Result Bool Stop) (refused : Bool) → worked ≡ Ok refused → Performs performed choices worked → Performs performed choices (Err Fault)
performs-unflushed performed choices worked refused is performs = record {
  legal = performs.legal;
  covered = tt;
  refused = tt;
  replayed = replay-unflushed performed.trace performed.script.library _ choices refused (rw is at performs.replayed);
}

-- the first line stands in the trace also after flushes
pub begun-settled : (told : Bool) (old_out out settled old_trace trace had first : List ℕ) (choices : List (List (List ℕ))) → (IsTrue told → settled ≡ out) → had ≡ trace → AppendsWhole old_trace trace first ⊎ IsUnbegun told old_out out choices → AppendsWhole old_trace had first ⊎ IsUnbegun told old_out settled choices
begun-settled told old_out out settled old_trace trace had first choices same also (inl whole) = inl (rw also whole)
begun-settled told old_out out settled old_trace trace had first choices same also (inr (none, is)) = inr (none, λ t. same t ∙ is t)
