-- A run, as one phase after another ends.
use Rattle.std.proofs.Common.{◌≡◌, ℕ, ◌+◌, ◌≤◌, Bool, true, false, List, [], ◌∷◌, ◌++◌, length, length-append, append-nil, append_assoc, take, Result, Ok, Err, arith, refl, ap, sym, ◌∙◌}
use Rattle.std.proofs.Math.Seq.{take-length, take-append-add}
use Rattle.std.specs.Prelude.{if◌then◌else◌}
use Rattle.xio.specs.Prefixes.{AppendsPrefix}
use Rattle.xdp_state.specs.Legal.{AreLegalAfter, AreLegal}
use Rattle.xdp_state.specs.Sums.{Past, no_past, past_with}
use Rattle.xdp_state.specs.Standing.{Standing}
use Rattle.xdp_state.specs.Traversals.{standings_in}
use Rattle.xdp_state.specs.Work.{all_needs}
use Rattle.xdp_state.specs.declared.library.Library.{Library}
use Rattle.xdp_tool.proofs.Legality.{lasts_after-more, lasts-within, legal-more, legal-front, plans}
use Rattle.xdp_tool.proofs.Phases.{length-traversals, past_after, past_after-more, refusal-more, standings_after, standings_after-more, texts-front, texts-more, traces-front, traces-more, traversals-front, traversals-more}
use Rattle.xdp_tool.specs.PhaseEnd.{EndsChoices, EndsText, OnChosen, PutsText, StopsText}
use Rattle.xdp_tool.specs.Plan.{Phase, has_refusal}
use Rattle.xdp_tool.specs.Queues.{queues_of}
use Rattle.xdp_tool.specs.Ran.{AllWithin, AreLegalOf, carried_by, lasts_after, standings_by}
use Rattle.xdp_tool.specs.Texts.{phase_text, texts_from}
use Rattle.script_text.specs.Trace.{first_line}
use Rattle.xdp_tool.specs.Trace.{traced_text, traces_from}
use Rattle.xdp_tool.specs.Traversed.{out_for, standings_of, trace_for, traces_for, traversed}
use Rattle.xdp_tool.specs.Walked.{Begun, begun_after, no_begun}
use Rattle.xdp_tool.specs.declared.perform.Stop.{Stop}
use Rattle.xdp_tool.specs.declared.perform.Stop.TheVariants.{Fault, OutOfMemory, Differs}

-- the phases that have ended, what they leave for the next one, and the counts of their packets
pub record Ran (library : Library) (done : List Phase) (begun : Begun) (past : Past) (standings : List Standing) (choices : List (List (List ℕ))) : Type 0 where
  pub covered : length choices ≡ length done
  pub legal : AreLegalAfter [] (plans done) choices
  pub lasts : AllWithin (length begun.published) (lasts_after [] choices)
  pub stands : standings ≡ standings_after library (standings_of (queues_of library.interfaces)) done choices
  pub counted : past ≡ past_after (no_past (length (queues_of library.interfaces))) (traversed library done choices)
  pub refused : begun.refused ≡ has_refusal done

pub ran-none : (library : Library) → Ran library [] no_begun (no_past (length (queues_of library.interfaces))) (standings_of (queues_of library.interfaces)) []
ran-none library = record { covered = refl; legal = tt; lasts = tt; stands = refl; counted = refl; refused = refl }

-- what is known of a phase that was carried with these counts behind the choices
pub record Steps (begun : Begun) (phase : Phase) (choices : List (List (List ℕ))) (counts : List (List ℕ)) : Type 0 where
  pub grown : length begun.published ≤ length phase.work.published
  pub legal : AreLegalOf (lasts_after [] choices) phase counts

-- what is printed of a phase whose packets were carried with these counts
abbrev pub text_of : Library → Past → List Standing → Phase → List (List ℕ) → List ℕ
text_of library past standings phase counts = phase_text library phase past (past_with past (carried_by library standings phase counts))

traversed-more : (library : Library) (done : List Phase) (begun : Begun) (past : Past) (standings : List Standing) (choices : List (List (List ℕ))) (phase : Phase) (counts : List (List ℕ)) (rest : List Phase) → Ran library done begun past standings choices → traversed library (done ++ phase ∷ rest) (choices ++ counts ∷ []) ≡ traversed library done choices ++ carried_by library standings phase counts ∷ []
traversed-more library done begun past standings choices phase counts rest ran =
    rw ran.stands (traversals-more library (standings_of (queues_of library.interfaces)) done phase rest choices counts ran.covered)

length-carried : (library : Library) (done : List Phase) (choices : List (List (List ℕ))) → length choices ≡ length done → length (traversed library done choices) ≡ length done
length-carried library done choices same = length-traversals library (standings_of (queues_of library.interfaces)) done choices same

-- a phase more
pub ran-more : (library : Library) (done : List Phase) (begun : Begun) (past : Past) (standings : List Standing) (choices : List (List (List ℕ))) (phase : Phase) (counts : List (List ℕ)) → Ran library done begun past standings choices → Steps begun phase choices counts → Ran library (done ++ phase ∷ []) (begun_after begun phase) (past_with past (carried_by library standings phase counts)) (standings_in library phase.work.published standings phase.work.hand_ins counts) (choices ++ counts ∷ [])
ran-more library done begun past standings choices phase counts ran steps = record {
  covered = omega (arith, length-append choices (counts ∷ []), length-append done (phase ∷ []), ran.covered);
  legal = legal-more [] done phase [] choices counts ran.covered ran.legal steps.legal;
  lasts = rw (lasts_after-more [] choices counts)
      (lasts-within (length begun.published) (length phase.work.published) (lasts_after [] choices) (all_needs phase.work.hand_ins) counts steps.grown ran.lasts steps.legal);
  stands = ap (λ ss. standings_in library phase.work.published ss phase.work.hand_ins counts) ran.stands
      ∙ sym (standings_after-more library (standings_of (queues_of library.interfaces)) done phase choices counts ran.covered);
  counted = ap (λ p. past_with p (carried_by library standings phase counts)) ran.counted
      ∙ sym (past_after-more (no_past (length (queues_of library.interfaces))) (traversed library done choices) (carried_by library standings phase counts))
      ∙ ap (past_after (no_past (length (queues_of library.interfaces)))) (sym (traversed-more library done begun past standings choices phase counts [] ran));
  refused = rw (refusal-more done phase, ← ran.refused) refl;
}

pub ran-next : (library : Library) (done : List Phase) (begun : Begun) (past : Past) (standings : List Standing) (choices now : List (List (List ℕ))) (phase : Phase) (counts : List (List ℕ)) → now ≡ choices ++ counts ∷ [] → Ran library done begun past standings choices → Steps begun phase choices counts → Ran library (done ++ phase ∷ []) (begun_after begun phase) (past_with past (carried_by library standings phase counts)) (standings_by library standings phase counts) now
ran-next library done begun past standings choices now phase counts is ran steps =
    rw is (ran-more library done begun past standings choices phase counts ran steps)

-- the counts so far are legal for the plan, whether the phase ended or not
pub ended-legal : (library : Library) (done : List Phase) (begun : Begun) (past : Past) (standings : List Standing) (choices now : List (List (List ℕ))) (phase : Phase) (counts : List (List ℕ)) (rest : List Phase) (result : Result Unit Stop) → Ran library done begun past standings choices → OnChosen result (AreLegalOf (lasts_after [] choices) phase counts) → EndsChoices result choices now counts → AreLegal (plans (done ++ phase ∷ rest)) now
ended-legal library done begun past standings choices now phase counts rest (Ok _) ran legal is =
    rw is (legal-more [] done phase rest choices counts ran.covered ran.legal legal)
ended-legal library done begun past standings choices now phase counts rest (Err Fault) ran legal is =
    rw is (legal-more [] done phase rest choices counts ran.covered ran.legal legal)
ended-legal library done begun past standings choices now phase counts rest (Err OutOfMemory) ran legal is =
    rw is (legal-front [] done (phase ∷ rest) choices ran.legal)
ended-legal library done begun past standings choices now phase counts rest (Err (Differs line)) ran legal is =
    rw is (legal-front [] done (phase ∷ rest) choices ran.legal)

pub stopped-legal : (library : Library) (done : List Phase) (begun : Begun) (past : Past) (standings : List Standing) (choices : List (List (List ℕ))) (rest : List Phase) → Ran library done begun past standings choices → AreLegal (plans (done ++ rest)) choices
stopped-legal library done begun past standings choices rest ran = legal-front [] done rest choices ran.legal

-- what one phase more prints and leaves in the trace
pub out-more : (library : Library) (done : List Phase) (begun : Begun) (past : Past) (standings : List Standing) (choices : List (List (List ℕ))) (phase : Phase) (counts : List (List ℕ)) (rest : List Phase) → Ran library done begun past standings choices → out_for library (done ++ phase ∷ rest) (choices ++ counts ∷ []) ≡ out_for library done choices ++ text_of library past standings phase counts
out-more library done begun past standings choices phase counts rest ran =
    ap (texts_from library (no_past (length (queues_of library.interfaces))) (done ++ phase ∷ rest)) (traversed-more library done begun past standings choices phase counts rest ran)
    ∙ texts-more library (no_past (length (queues_of library.interfaces))) done phase rest (traversed library done choices) (carried_by library standings phase counts) (length-carried library done choices ran.covered)
    ∙ ap (λ p. out_for library done choices ++ phase_text library phase p (past_with p (carried_by library standings phase counts))) (sym ran.counted)

pub out-front : (library : Library) (done rest : List Phase) (choices : List (List (List ℕ))) → length choices ≡ length done → out_for library (done ++ rest) choices ≡ out_for library done choices
out-front library done rest choices same =
    ap (texts_from library (no_past (length (queues_of library.interfaces))) (done ++ rest)) (traversals-front library (standings_of (queues_of library.interfaces)) done rest choices same)
    ∙ texts-front library (no_past (length (queues_of library.interfaces))) done rest (traversed library done choices) (length-carried library done choices same)

pub traces-for-more : (traced : Bool) (library : Library) (done : List Phase) (begun : Begun) (past : Past) (standings : List Standing) (choices : List (List (List ℕ))) (phase : Phase) (counts : List (List ℕ)) (rest : List Phase) → Ran library done begun past standings choices → traces_for traced library (done ++ phase ∷ rest) (choices ++ counts ∷ []) ≡ traces_for traced library done choices ++ traced_text traced (length choices) phase.barrier (carried_by library standings phase counts)
traces-for-more true library done begun past standings choices phase counts rest ran =
    let number : 0 + length (traversed library done choices) ≡ length choices = omega (arith, length-carried library done choices ran.covered, ran.covered) in
    ap (traces_from 0 (done ++ phase ∷ rest)) (traversed-more library done begun past standings choices phase counts rest ran)
    ∙ traces-more 0 done phase rest (traversed library done choices) (carried_by library standings phase counts) (length-carried library done choices ran.covered)
    ∙ ap (λ n. traces_for true library done choices ++ traced_text true n phase.barrier (carried_by library standings phase counts)) number
traces-for-more false library done begun past standings choices phase counts rest ran = refl

pub traces-for-front : (traced : Bool) (library : Library) (done rest : List Phase) (choices : List (List (List ℕ))) → length choices ≡ length done → traces_for traced library (done ++ rest) choices ≡ traces_for traced library done choices
traces-for-front true library done rest choices same =
    ap (traces_from 0 (done ++ rest)) (traversals-front library (standings_of (queues_of library.interfaces)) done rest choices same)
    ∙ traces-front 0 done rest (traversed library done choices) (length-carried library done choices same)
traces-for-front false library done rest choices same = refl

-- what a text of phases has more with the counts of one phase more
abbrev pub Grows : (List (List (List ℕ)) → List ℕ) → List (List (List ℕ)) → List (List ℕ) → List ℕ → Type 0
Grows text_of choices counts text = text_of (choices ++ counts ∷ []) ≡ text_of choices ++ text

-- what a sink holds once a phase ended, or once its end was cut short
pub ended-put : (text_of : List (List (List ℕ)) → List ℕ) (choices now : List (List (List ℕ))) (counts : List (List ℕ)) (text : List ℕ) (result : Result Unit Stop) (old held after : List ℕ) → Grows text_of choices counts text → EndsChoices result choices now counts → held ≡ old ++ text_of choices → EndsText result held after text → StopsText result old after (text_of now)
ended-put text_of choices now counts text (Ok _) old held after grows is was ended =
    ended ∙ (ap (λ h. h ++ text) was ∙ (append_assoc old (text_of choices) text ∙ ap (λ t. old ++ t) (sym grows ∙ ap text_of (sym is))))
ended-put text_of choices now counts text (Err Fault) old held after grows is was (n, ended) =
    let k = length (text_of choices) + n in (
      k,
      ended ∙ (ap (λ h. h ++ take n text) was ∙ (append_assoc old (text_of choices) (take n text)
          ∙ ap (λ t. old ++ t) (sym (take-append-add (text_of choices) text n) ∙ ap (take k) (sym grows ∙ ap text_of (sym is))))),
    )
ended-put text_of choices now counts text (Err OutOfMemory) old held after grows is was ended =
    let k = length (text_of choices) in
    (k, ended ∙ (was ∙ ap (λ t. old ++ t) (sym (take-length (text_of choices)) ∙ ap (take k) (ap text_of (sym is)))))
ended-put text_of choices now counts text (Err (Differs line)) old held after grows is was ended =
    ended ∙ (was ∙ ap (λ t. old ++ t) (ap text_of (sym is)))

pub out-grows : (library : Library) (done : List Phase) (begun : Begun) (past : Past) (standings : List Standing) (choices : List (List (List ℕ))) (phase : Phase) (counts : List (List ℕ)) (rest : List Phase) → Ran library done begun past standings choices → Grows (out_for library (done ++ phase ∷ rest)) choices counts (text_of library past standings phase counts)
out-grows library done begun past standings choices phase counts rest ran =
    out-more library done begun past standings choices phase counts rest ran
    ∙ ap (λ t. t ++ text_of library past standings phase counts) (sym (out-front library done (phase ∷ rest) choices ran.covered))

pub traces-grow : (traced : Bool) (library : Library) (done : List Phase) (begun : Begun) (past : Past) (standings : List Standing) (choices : List (List (List ℕ))) (phase : Phase) (counts : List (List ℕ)) (rest : List Phase) → Ran library done begun past standings choices → Grows (traces_for traced library (done ++ phase ∷ rest)) choices counts (traced_text traced (length choices) phase.barrier (carried_by library standings phase counts))
traces-grow traced library done begun past standings choices phase counts rest ran =
    traces-for-more traced library done begun past standings choices phase counts rest ran
    ∙ ap (λ t. t ++ traced_text traced (length choices) phase.barrier (carried_by library standings phase counts)) (sym (traces-for-front traced library done (phase ∷ rest) choices ran.covered))

pub ended-out : (library : Library) (done : List Phase) (begun : Begun) (past : Past) (standings : List Standing) (choices now : List (List (List ℕ))) (phase : Phase) (counts : List (List ℕ)) (rest : List Phase) (result : Result Unit Stop) (old held after : List ℕ) → Ran library done begun past standings choices → EndsChoices result choices now counts → held ≡ old ++ out_for library done choices → EndsText result held after (text_of library past standings phase counts) → StopsText result old after (out_for library (done ++ phase ∷ rest) now)
ended-out library done begun past standings choices now phase counts rest result old held after ran chosen is ended =
    ended-put (out_for library (done ++ phase ∷ rest)) choices now counts (text_of library past standings phase counts) result old held after
    (out-grows library done begun past standings choices phase counts rest ran) chosen
    (is ∙ ap (λ t. old ++ t) (sym (out-front library done (phase ∷ rest) choices ran.covered))) ended

pub ended-trace : (traced : Bool) (library : Library) (done : List Phase) (begun : Begun) (past : Past) (standings : List Standing) (choices now : List (List (List ℕ))) (phase : Phase) (counts : List (List ℕ)) (rest : List Phase) (result : Result Unit Stop) (old held after : List ℕ) → Ran library done begun past standings choices → EndsChoices result choices now counts → held ≡ old ++ traces_for traced library done choices → EndsText result held after (traced_text traced (length choices) phase.barrier (carried_by library standings phase counts)) → StopsText result old after (traces_for traced library (done ++ phase ∷ rest) now)
ended-trace traced library done begun past standings choices now phase counts rest result old held after ran chosen is ended =
    ended-put (traces_for traced library (done ++ phase ∷ rest)) choices now counts (traced_text traced (length choices) phase.barrier (carried_by library standings phase counts)) result old held after
    (traces-grow traced library done begun past standings choices phase counts rest ran) chosen
    (is ∙ ap (λ t. old ++ t) (sym (traces-for-front traced library done (phase ∷ rest) choices ran.covered))) ended

pub prefix-whole : (old new text : List ℕ) → new ≡ old ++ text → AppendsPrefix old new text
prefix-whole old new text whole = (length text, whole ∙ ap (λ t. old ++ t) (sym (take-length text)))

-- a walk that stopped between the ends of phases wrote nothing more
pub stopped-out : (library : Library) (done : List Phase) (begun : Begun) (past : Past) (standings : List Standing) (choices : List (List (List ℕ))) (rest : List Phase) (old held : List ℕ) → Ran library done begun past standings choices → held ≡ old ++ out_for library done choices → AppendsPrefix old held (out_for library (done ++ rest) choices)
stopped-out library done begun past standings choices rest old held ran is =
    prefix-whole old held _ (is ∙ ap (λ t. old ++ t) (sym (out-front library done rest choices ran.covered)))

pub stopped-trace : (traced : Bool) (library : Library) (done : List Phase) (begun : Begun) (past : Past) (standings : List Standing) (choices : List (List (List ℕ))) (rest : List Phase) (old held : List ℕ) → Ran library done begun past standings choices → held ≡ old ++ traces_for traced library done choices → AppendsPrefix old held (traces_for traced library (done ++ rest) choices)
stopped-trace traced library done begun past standings choices rest old held ran is =
    prefix-whole old held _ (is ∙ ap (λ t. old ++ t) (sym (traces-for-front traced library done rest choices ran.covered)))

-- a whole text was put, or its front
pub puts-whole : {A E : Type 0} (result : Result A E) (old new text : List ℕ) → new ≡ old ++ text → PutsText result old new text
puts-whole (Ok x) old new text whole = whole
puts-whole (Err e) old new text whole = (length text, whole ∙ ap (λ t. old ++ t) (sym (take-length text)))

-- a trace is its first line and its phases
pub trace-split : (traced : Bool) (library : Library) (phases : List Phase) (choices : List (List (List ℕ))) → trace_for traced library phases choices ≡ (if traced then first_line else []) ++ traces_for traced library phases choices
trace-split true library phases choices = refl
trace-split false library phases choices = refl

-- before the first phase has ended the trace has no phase
pub traces-none : (traced : Bool) (library : Library) (old : List ℕ) → old ≡ old ++ traces_for traced library [] []
traces-none true library old = sym (append-nil old)
traces-none false library old = sym (append-nil old)

pub trace-joined : (traced : Bool) (library : Library) (phases : List Phase) (choices : List (List (List ℕ))) (old begun new : List ℕ) → begun ≡ old ++ (if traced then first_line else []) → new ≡ begun ++ traces_for traced library phases choices → new ≡ old ++ trace_for traced library phases choices
trace-joined traced library phases choices old begun new first rest =
    rest ∙ ap (λ t. t ++ traces_for traced library phases choices) first ∙ append_assoc old (if traced then first_line else []) (traces_for traced library phases choices)
    ∙ ap (λ t. old ++ t) (sym (trace-split traced library phases choices))
