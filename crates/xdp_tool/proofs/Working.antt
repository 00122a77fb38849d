-- A run, as its phases are walked.
use Rattle.std.proofs.Common.{◌≡◌, ℕ, true, false, List, [], ◌∷◌, ◌++◌, append_assoc, Result, Ok, Err, OnOk, IfOk, Option, Some, None, refl, ap, sym, ◌∙◌}
use Rattle.std.specs.Prelude.{is_none}
use Rattle.std.proofs.lemmas.Bool.{false≢true}
use Rattle.std.specs.Result.{IsErr}
use Rattle.script_text.specs.declared.what.Line.{Line}
use Rattle.xdp_state.specs.declared.library.Library.{Library}
use Rattle.xio.specs.Prefixes.{AppendsPrefix}
use Rattle.xdp_tool.proofs.Running.{Steps}
use Rattle.xdp_tool.proofs.Walking.{rising-low}
use Rattle.xdp_tool.specs.PhaseEnd.{PutsText}
use Rattle.xdp_tool.specs.Plan.{Phase, closed, next_of, phases_from}
use Rattle.xdp_tool.specs.Ran.{AreLegalOf, lasts_after}
use Rattle.xdp_tool.specs.Walked.{Begun, IsAt, phases_behind}
use Rattle.xdp_tool.specs.declared.perform.Stop.{Stop}
use Rattle.xdp_tool.specs.declared.walk.Walk.{Walk}

-- what is known of a phase that was walked and carried, whatever ends it
pub steps-of : (walk : Walk) (begun : Begun) (phase : Phase) (barrier : Option ℕ) (choices : List (List (List ℕ))) (counts : List (List ℕ)) → IsAt walk begun phase → AreLegalOf (lasts_after [] choices) phase counts → Steps begun (closed barrier phase) choices counts
steps-of walk begun phase barrier choices counts at legal = record { grown = rising-low _ phase.items _ at.rising; legal = legal }

-- the plan, once a phase has ended
pub plan-ended : (library : Library) (plan done : List Phase) (first phase : Phase) (barrier : Option ℕ) (lines left : List Line) → plan ≡ done ++ phases_from library first lines → phases_from library first lines ≡ closed barrier phase ∷ phases_behind library barrier phase left → plan ≡ done ++ closed barrier phase ∷ phases_behind library barrier phase left
plan-ended library plan done first phase barrier lines left whole ended = whole ∙ ap (λ phases. done ++ phases) ended

-- a barrier opens the next one
pub plan-next : (library : Library) (plan done : List Phase) (phase : Phase) (line : ℕ) (left : List Line) → plan ≡ done ++ closed (Some line) phase ∷ phases_behind library (Some line) phase left → plan ≡ (done ++ closed (Some line) phase ∷ []) ++ phases_from library (next_of library phase) left
plan-next library plan done phase line left whole = whole ∙ sym (append_assoc done (closed (Some line) phase ∷ []) (phases_from library (next_of library phase) left))

-- a run that stops puts the front of a text
pub puts-front : {A : Type 0} (result : Result A Stop) (old new text : List ℕ) → IsErr result → AppendsPrefix old new text → PutsText result old new text
puts-front (Ok x) old new text stopped front = absurd (false≢true stopped)
puts-front (Err e) old new text stopped front = front

pub not-ok : {A E : Type 0} (Q : Type 0) (result : Result A E) → IsErr result → OnOk result Q
not-ok Q (Ok x) stopped = absurd (false≢true stopped)
not-ok Q (Err e) stopped = tt

pub not-ok-value : {A E : Type 0} (Q : A → Type 0) (result : Result A E) → IsErr result → IfOk result Q
not-ok-value Q (Ok x) stopped = absurd (false≢true stopped)
not-ok-value Q (Err e) stopped = tt

-- what stands behind the last phase, and behind another one
pub none-of : (barrier : Option ℕ) → is_none barrier ≡ true → barrier ≡ None
none-of None is = refl
none-of (Some line) is = absurd cc

pub some-of : (barrier : Option ℕ) → is_none barrier ≡ false → (line : ℕ) × (barrier ≡ Some line)
some-of None is = absurd cc
some-of (Some line) is = (line, refl)

pub plan-last : (library : Library) (plan done : List Phase) (phase : Phase) (barrier : Option ℕ) (left : List Line) → is_none barrier ≡ true → plan ≡ done ++ closed barrier phase ∷ phases_behind library barrier phase left → plan ≡ done ++ closed barrier phase ∷ []
plan-last library plan done phase None left is whole = whole
plan-last library plan done phase (Some line) left is whole = absurd cc

pub plan-more : (library : Library) (plan done : List Phase) (phase : Phase) (barrier : Option ℕ) (left : List Line) → is_none barrier ≡ false → plan ≡ done ++ closed barrier phase ∷ phases_behind library barrier phase left → plan ≡ (done ++ closed barrier phase ∷ []) ++ phases_from library (next_of library phase) left
plan-more library plan done phase None left is whole = absurd cc
plan-more library plan done phase (Some line) left is whole = plan-next library plan done phase line left whole

pub behind-last : (library : Library) (phase : Phase) (barrier : Option ℕ) (left : List Line) → is_none barrier ≡ true → phases_behind library barrier phase left ≡ []
behind-last library phase None left is = refl
behind-last library phase (Some line) left is = absurd cc

pub behind-more : (library : Library) (phase : Phase) (barrier : Option ℕ) (left : List Line) → is_none barrier ≡ false → phases_behind library barrier phase left ≡ phases_from library (next_of library phase) left
behind-more library phase None left is = absurd cc
behind-more library phase (Some line) left is = refl
