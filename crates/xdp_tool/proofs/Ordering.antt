-- Out has a phase whole before the trace has anything of it.
use Rattle.std.proofs.Common.{◌≡◌, ℕ, ◌⊎◌, inl, inr, Bool, List, [], ◌∷◌, ◌++◌, length, append-nil, append_assoc, take, Result, Ok, Err, refl, ap, sym, ◌∙◌}
use Rattle.std.proofs.Math.Seq.{take-append_seam, take-length}
use Rattle.std.specs.Prelude.{if◌then◌else◌}
use Rattle.xio.proofs.PrefixLemmas.{prefix_more, prefix_of_front}
use Rattle.xio.specs.Prefixes.{AppendsPrefix}
use Rattle.xdp_state.specs.declared.library.Library.{Library}
use Rattle.xdp_state.specs.Sums.{Past, no_past}
use Rattle.xdp_state.specs.Standing.{Standing}
use Rattle.xdp_tool.proofs.Running.{Grows, Ran, ended-put, out-front, out-grows, prefix-whole, ran-none, stopped-trace, text_of, trace-split, traces-for-front, traces-grow, traces-none}
use Rattle.xdp_tool.specs.Order.{AppendsWhole}
use Rattle.xdp_tool.specs.PhaseEnd.{EndsChoices, EndsText}
use Rattle.xdp_tool.specs.Plan.{Phase}
use Rattle.xdp_tool.specs.Queues.{queues_of}
use Rattle.xdp_tool.specs.Ran.{carried_by}
use Rattle.script_text.specs.Trace.{first_line}
use Rattle.xdp_tool.specs.Trace.{traced_text}
use Rattle.xdp_tool.specs.Traversed.{out_for, standings_of, trace_for, traces_for}
use Rattle.xdp_tool.specs.Walked.{Begun, no_begun}
use Rattle.xdp_tool.specs.declared.perform.Stop.{Stop}
use Rattle.xdp_tool.specs.declared.perform.Stop.TheVariants.{Fault, OutOfMemory, Differs}

-- Of so many phases the earlier sink has the texts whole, and the later one no more than the front of its own. Sinks are
-- compared two by two, in the order in which they are written.
abbrev pub Ordered : (List (List (List ℕ)) → List ℕ) → (List (List (List ℕ)) → List ℕ) → List (List (List ℕ)) → List ℕ → List ℕ → List ℕ → List ℕ → Type 0
Ordered first second choices old new had now =
    (ended : ℕ) × AppendsWhole old new (first (take ended choices)) × AppendsPrefix had now (second (take ended choices))

-- all phases stand whole in the earlier one
pub whole-ordered : (first second : List (List (List ℕ)) → List ℕ) (choices : List (List (List ℕ))) (old new had now : List ℕ) → new ≡ old ++ first choices → AppendsPrefix had now (second choices) → Ordered first second choices old new had now
whole-ordered first second choices old new had now whole front =
    (length choices, ([], rw (take-length choices, append-nil) whole), rw (take-length choices) front)

-- a phase ended, or its end was cut short
pub end-ordered : (first second : List (List (List ℕ)) → List ℕ) (choices now : List (List (List ℕ))) (counts : List (List ℕ)) (text more : List ℕ) (result : Result Unit Stop) (old held new had kept last : List ℕ) → Grows first choices counts text → Grows second choices counts more → EndsChoices result choices now counts → held ≡ old ++ first choices → EndsText result held new text → kept ≡ had ++ second choices → EndsText result kept last more → (new ≡ held ++ text) ⊎ (last ≡ kept) → Ordered first second now old new had last
end-ordered first second choices now counts text more (Ok u) old held new had kept last grows grow is was put were puts order =
    whole-ordered first second now old new had last
    (ended-put first choices now counts text (Ok u) old held new grows is was put)
    (prefix-whole had last (second now) (ended-put second choices now counts more (Ok u) had kept last grow is were puts))
end-ordered first second choices now counts text more (Err OutOfMemory) old held new had kept last grows grow is was put were puts order =
    whole-ordered first second now old new had last
    (put ∙ (was ∙ ap (λ c. old ++ first c) (sym is)))
    (prefix-whole had last (second now) (puts ∙ (were ∙ ap (λ c. had ++ second c) (sym is))))
end-ordered first second choices now counts text more (Err (Differs line)) old held new had kept last grows grow is was put were puts order =
    whole-ordered first second now old new had last
    (put ∙ (was ∙ ap (λ c. old ++ first c) (sym is)))
    (prefix-whole had last (second now) (puts ∙ (were ∙ ap (λ c. had ++ second c) (sym is))))
end-ordered first second choices now counts text more (Err Fault) old held new had kept last grows grow is was put were puts (inl whole) =
    whole-ordered first second now old new had last
    (ended-put first choices now counts text (Ok tt) old held new grows is was whole)
    (ended-put second choices now counts more (Err Fault) had kept last grow is were puts)
end-ordered first second choices now counts text more (Err Fault) old held new had kept last grows grow is was (n, front) were puts (inr same) =
    let before : take (length choices) now ≡ choices = ap (take (length choices)) is ∙ take-append_seam choices (counts ∷ []) in
    let whole : new ≡ old ++ (first choices ++ take n text) = front ∙ (ap (λ h. h ++ take n text) was ∙ append_assoc old (first choices) (take n text)) in (
      length choices,
      (take n text, whole ∙ ap (λ c. old ++ (first c ++ take n text)) (sym before)),
      rw before (prefix-whole had last (second choices) (same ∙ were)),
    )

-- a walk stopped between the ends of phases
pub stopped-ordered : (traced : Bool) (library : Library) (done : List Phase) (begun : Begun) (past : Past) (standings : List Standing) (choices : List (List (List ℕ))) (rest : List Phase) (old_out out old_trace trace : List ℕ) → Ran library done begun past standings choices → out ≡ old_out ++ out_for library done choices → trace ≡ old_trace ++ traces_for traced library done choices → Ordered (out_for library (done ++ rest)) (traces_for traced library (done ++ rest)) choices old_out out old_trace trace
stopped-ordered traced library done begun past standings choices rest old_out out old_trace trace ran whole traces =
    whole-ordered (out_for library (done ++ rest)) (traces_for traced library (done ++ rest)) choices old_out out old_trace trace
    (whole ∙ ap (λ t. old_out ++ t) (sym (out-front library done rest choices ran.covered)))
    (stopped-trace traced library done begun past standings choices rest old_trace trace ran traces)

-- before the first phase
pub none-ordered : (traced : Bool) (library : Library) (phases : List Phase) (choices : List (List (List ℕ))) (out trace : List ℕ) → choices ≡ [] → Ordered (out_for library phases) (traces_for traced library phases) choices out out trace trace
none-ordered traced library phases choices out trace none =
    rw none (stopped-ordered traced library [] no_begun (no_past (length (queues_of library.interfaces))) (standings_of (queues_of library.interfaces)) [] phases out out trace trace (ran-none library) (sym (append-nil out)) (traces-none traced library trace))

pub ended-ordered : (traced : Bool) (library : Library) (done : List Phase) (begun : Begun) (past : Past) (standings : List Standing) (choices now : List (List (List ℕ))) (phase : Phase) (counts : List (List ℕ)) (rest : List Phase) (result : Result Unit Stop) (old_out held out old_trace had trace : List ℕ) → Ran library done begun past standings choices → EndsChoices result choices now counts → held ≡ old_out ++ out_for library done choices → EndsText result held out (text_of library past standings phase counts) → had ≡ old_trace ++ traces_for traced library done choices → EndsText result had trace (traced_text traced (length choices) phase.barrier (carried_by library standings phase counts)) → (out ≡ held ++ text_of library past standings phase counts) ⊎ (trace ≡ had) → Ordered (out_for library (done ++ phase ∷ rest)) (traces_for traced library (done ++ phase ∷ rest)) now old_out out old_trace trace
ended-ordered traced library done begun past standings choices now phase counts rest result old_out held out old_trace had trace ran chosen is text was traces order =
    end-ordered (out_for library (done ++ phase ∷ rest)) (traces_for traced library (done ++ phase ∷ rest)) choices now counts
    (text_of library past standings phase counts) (traced_text traced (length choices) phase.barrier (carried_by library standings phase counts)) result old_out held out old_trace had trace
    (out-grows library done begun past standings choices phase counts rest ran) (traces-grow traced library done begun past standings choices phase counts rest ran) chosen
    (is ∙ ap (λ t. old_out ++ t) (sym (out-front library done (phase ∷ rest) choices ran.covered))) text
    (was ∙ ap (λ t. old_trace ++ t) (sym (traces-for-front traced library done (phase ∷ rest) choices ran.covered))) traces order

-- nothing is printed of no phase
pub none-whole : (library : Library) (phases : List Phase) (out : List ℕ) → AppendsWhole out out (out_for library phases [])
none-whole library phases out = ([], rw (out-front library [] phases [] refl) (sym (append-nil out)))

pub front-begins : (library : Library) (phases : List Phase) (old_out out text : List ℕ) → AppendsPrefix old_out out text → AppendsWhole old_out out (out_for library phases [])
front-begins library phases old_out out text (n, front) = (take n text, rw (out-front library [] phases [] refl) front)

-- the same of a trace with its first line
pub begun-ordered : (traced : Bool) (library : Library) (phases : List Phase) (choices : List (List (List ℕ))) (old_out out old_trace begun trace : List ℕ) → begun ≡ old_trace ++ (if traced then first_line else []) → Ordered (out_for library phases) (traces_for traced library phases) choices old_out out begun trace → Ordered (out_for library phases) (trace_for traced library phases) choices old_out out old_trace trace
begun-ordered traced library phases choices old_out out old_trace begun trace first (ended, whole, front) =
    (ended, whole, rw (trace-split traced library phases (take ended choices)) (prefix_more _ _ _ _ (rw first at front)))

-- the first line was cut short
pub unbegun-ordered : (traced : Bool) (library : Library) (phases : List Phase) (choices : List (List (List ℕ))) (out old_trace trace : List ℕ) → AppendsPrefix old_trace trace (if traced then first_line else []) → Ordered (out_for library phases) (trace_for traced library phases) choices out out old_trace trace
unbegun-ordered traced library phases choices out old_trace trace front =
    (0, none-whole library phases out, rw (trace-split traced library phases (take 0 choices)) (prefix_of_front _ _ _ _ front))

pub settled-ordered : (traced : Bool) (library : Library) (phases : List Phase) (choices : List (List (List ℕ))) (old_out out settled old_trace trace had : List ℕ) → settled ≡ out → had ≡ trace → Ordered (out_for library phases) (trace_for traced library phases) choices old_out out old_trace trace → Ordered (out_for library phases) (trace_for traced library phases) choices old_out settled old_trace had
settled-ordered traced library phases choices old_out out settled old_trace trace had same also ordered = rw (same, also) ordered
