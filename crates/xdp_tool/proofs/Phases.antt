-- What phases that have ended carried, printed and left in the trace, as one phase more ends.
use Rattle.std.proofs.Common.{◌≡◌, ℕ, ◌+◌, Bool, List, [], ◌∷◌, ◌++◌, length, append-nil, append_assoc, arith, refl, ap, sym, true, false, ◌∙◌, ◌||◌}
use Rattle.std.proofs.lemmas.List.Folds.{list_any-append}
use Rattle.std.specs.List.{list_any}
use Rattle.xdp_state.specs.Sums.{Past, past_with}
use Rattle.xdp_state.specs.Standing.{Standing}
use Rattle.xdp_state.specs.Traversals.{carried_in, standings_in, traversals}
use Rattle.xdp_state.specs.declared.carried.Carried.{Carried}
use Rattle.xdp_state.specs.declared.library.Library.{Library}
use Rattle.xdp_tool.specs.Plan.{Phase, has_refusal, is_refused, works_of}
use Rattle.xdp_tool.specs.Texts.{phase_text, texts_from}
use Rattle.xdp_tool.specs.Trace.{phase_trace, traces_from}

-- where the processors stand after some phases
abbrev pub standings_after : Library → List Standing → List Phase → List (List (List ℕ)) → List Standing
standings_after library standings (phase ∷ phases) (counts ∷ choices) =
    standings_after library (standings_in library phase.work.published standings phase.work.hand_ins counts) phases choices
standings_after library standings _ _ = standings

pub standings_after-more : (library : Library) (ss : List Standing) (done : List Phase) (phase : Phase) (choices : List (List (List ℕ))) (counts : List (List ℕ)) → length choices ≡ length done → standings_after library ss (done ++ phase ∷ []) (choices ++ counts ∷ []) ≡ standings_in library phase.work.published (standings_after library ss done choices) phase.work.hand_ins counts
standings_after-more library ss [] phase [] counts same = refl
standings_after-more library ss [] phase (c ∷ choices) counts same = absurd (omega (arith, same))
standings_after-more library ss (d ∷ done) phase [] counts same = absurd (omega (arith, same))
standings_after-more library ss (d ∷ done) phase (c ∷ choices) counts same =
    standings_after-more library (standings_in library d.work.published ss d.work.hand_ins c) done phase choices counts (omega (arith, same))

pub traversals-more : (library : Library) (ss : List Standing) (done : List Phase) (phase : Phase) (rest : List Phase) (choices : List (List (List ℕ))) (counts : List (List ℕ)) → length choices ≡ length done → traversals library ss (works_of (done ++ phase ∷ rest)) (choices ++ counts ∷ []) ≡ traversals library ss (works_of done) choices ++ carried_in library phase.work.published (standings_after library ss done choices) phase.work.hand_ins counts ∷ []
traversals-more library ss [] phase [] [] counts same = refl
traversals-more library ss [] phase (r ∷ rest) [] counts same = refl
traversals-more library ss [] phase rest (c ∷ choices) counts same = absurd (omega (arith, same))
traversals-more library ss (d ∷ done) phase rest [] counts same = absurd (omega (arith, same))
traversals-more library ss (d ∷ done) phase rest (c ∷ choices) counts same =
    ap (λ more. carried_in library d.work.published ss d.work.hand_ins c ∷ more)
    (traversals-more library (standings_in library d.work.published ss d.work.hand_ins c) done phase rest choices counts (omega (arith, same)))

-- phases that aren't covered carry nothing
pub traversals-front : (library : Library) (ss : List Standing) (done rest : List Phase) (choices : List (List (List ℕ))) → length choices ≡ length done → traversals library ss (works_of (done ++ rest)) choices ≡ traversals library ss (works_of done) choices
traversals-front library ss [] [] [] same = refl
traversals-front library ss [] (r ∷ rest) [] same = refl
traversals-front library ss [] rest (c ∷ choices) same = absurd (omega (arith, same))
traversals-front library ss (d ∷ done) rest [] same = absurd (omega (arith, same))
traversals-front library ss (d ∷ done) rest (c ∷ choices) same =
    ap (λ more. carried_in library d.work.published ss d.work.hand_ins c ∷ more)
    (traversals-front library (standings_in library d.work.published ss d.work.hand_ins c) done rest choices (omega (arith, same)))

pub length-traversals : (library : Library) (ss : List Standing) (done : List Phase) (choices : List (List (List ℕ))) → length choices ≡ length done → length (traversals library ss (works_of done) choices) ≡ length done
length-traversals library ss [] [] same = refl
length-traversals library ss [] (c ∷ choices) same = absurd (omega (arith, same))
length-traversals library ss (d ∷ done) [] same = absurd (omega (arith, same))
length-traversals library ss (d ∷ done) (c ∷ choices) same =
    omega (arith, length-traversals library (standings_in library d.work.published ss d.work.hand_ins c) done choices (omega (arith, same)))

-- what was carried in some phases
abbrev pub past_after : Past → List (List (List Carried)) → Past
past_after past [] = past
past_after past (carried ∷ more) = past_after (past_with past carried) more

pub past_after-more : (past : Past) (carried : List (List (List Carried))) (this : List (List Carried)) → past_after past (carried ++ this ∷ []) ≡ past_with (past_after past carried) this
past_after-more past [] this = refl
past_after-more past (c ∷ carried) this = past_after-more (past_with past c) carried this

pub texts-more : (library : Library) (past : Past) (done : List Phase) (phase : Phase) (rest : List Phase) (carried : List (List (List Carried))) (this : List (List Carried)) → length carried ≡ length done → texts_from library past (done ++ phase ∷ rest) (carried ++ this ∷ []) ≡ texts_from library past done carried ++ phase_text library phase (past_after past carried) (past_with (past_after past carried) this)
texts-more library past [] phase [] [] this same = append-nil _
texts-more library past [] phase (r ∷ rest) [] this same = append-nil _
texts-more library past [] phase rest (c ∷ carried) this same = absurd (omega (arith, same))
texts-more library past (d ∷ done) phase rest [] this same = absurd (omega (arith, same))
texts-more library past (d ∷ done) phase rest (c ∷ carried) this same =
    ap (λ more. phase_text library d past (past_with past c) ++ more)
    (texts-more library (past_with past c) done phase rest carried this (omega (arith, same)))
    ∙ sym (append_assoc (phase_text library d past (past_with past c)) _ _)

pub texts-front : (library : Library) (past : Past) (done rest : List Phase) (carried : List (List (List Carried))) → length carried ≡ length done → texts_from library past (done ++ rest) carried ≡ texts_from library past done carried
texts-front library past [] [] [] same = refl
texts-front library past [] (r ∷ rest) [] same = refl
texts-front library past [] rest (c ∷ carried) same = absurd (omega (arith, same))
texts-front library past (d ∷ done) rest [] same = absurd (omega (arith, same))
texts-front library past (d ∷ done) rest (c ∷ carried) same =
    ap (λ more. phase_text library d past (past_with past c) ++ more)
    (texts-front library (past_with past c) done rest carried (omega (arith, same)))

pub traces-more : (number : ℕ) (done : List Phase) (phase : Phase) (rest : List Phase) (carried : List (List (List Carried))) (this : List (List Carried)) → length carried ≡ length done → traces_from number (done ++ phase ∷ rest) (carried ++ this ∷ []) ≡ traces_from number done carried ++ phase_trace (number + length carried) phase.barrier this
traces-more number [] phase [] [] this same = rw (append-nil) (let none : number + 0 ≡ number = omega arith in rw none refl)
traces-more number [] phase (r ∷ rest) [] this same = rw (append-nil) (let none : number + 0 ≡ number = omega arith in rw none refl)
traces-more number [] phase rest (c ∷ carried) this same = absurd (omega (arith, same))
traces-more number (d ∷ done) phase rest [] this same = absurd (omega (arith, same))
traces-more number (d ∷ done) phase rest (c ∷ carried) this same =
    let place : number + 1 + length carried ≡ number + length (c ∷ carried) = omega arith in
    ap (λ more. phase_trace number d.barrier c ++ more)
    (traces-more (number + 1) done phase rest carried this (omega (arith, same))
    ∙ ap (λ n. traces_from (number + 1) done carried ++ phase_trace n phase.barrier this) place)
    ∙ sym (append_assoc (phase_trace number d.barrier c) _ _)

pub traces-front : (number : ℕ) (done rest : List Phase) (carried : List (List (List Carried))) → length carried ≡ length done → traces_from number (done ++ rest) carried ≡ traces_from number done carried
traces-front number [] [] [] same = refl
traces-front number [] (r ∷ rest) [] same = refl
traces-front number [] rest (c ∷ carried) same = absurd (omega (arith, same))
traces-front number (d ∷ done) rest [] same = absurd (omega (arith, same))
traces-front number (d ∷ done) rest (c ∷ carried) same =
    ap (λ more. phase_trace number d.barrier c ++ more) (traces-front (number + 1) done rest carried (omega (arith, same)))

pub refusal-more : (done : List Phase) (phase : Phase) → has_refusal (done ++ phase ∷ []) ≡ (has_refusal done || list_any is_refused phase.items)
refusal-more done phase = list_any-append (λ (p : Phase). list_any is_refused p.items) done (phase ∷ []) ∙ ap (λ b. has_refusal done || b) (or-false (list_any is_refused phase.items))
  where
    or-false : (b : Bool) → (b || false) ≡ b
    or-false true = refl
    or-false false = refl
