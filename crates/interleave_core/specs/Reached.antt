-- Which plans can be walked step by step, and which plans and choices steps give.
use Rattle.std.specs.Prelude.{◌≡◌, ℕ, ◌≤◌, List, [], ◌∷◌, length, map, ⊤}
use Rattle.interleave_core.specs.Moment.{Leads, Moment, Move, Publishes, HandsIn, Carries, EndsPhase, beginning}
use Rattle.interleave_core.specs.declared.step.Step.{Step}
use Rattle.interleave_core.specs.declared.step.Step.TheVariants as step
use Rattle.xdp_state.specs.declared.plan.PlanPhase.{PlanPhase}

-- the needs of a processor in a phase never fall, and are between the publications before it and those at its end
abbrev pub AreNeeds : ℕ → ℕ → List ℕ → Type 0
AreNeeds first last [] = ⊤
AreNeeds first last (need ∷ needs) = (first ≤ need) × (need ≤ last) × AreNeeds need last needs

abbrev pub AllAreNeeds : ℕ → ℕ → List (List ℕ) → Type 0
AllAreNeeds first last [] = ⊤
AllAreNeeds first last (needs ∷ more) = AreNeeds first last needs × AllAreNeeds first last more

-- each phase has all processors, publications never fall, and needs are needs
abbrev pub ArePhases : ℕ → ℕ → List PlanPhase → Type 0
ArePhases processors first [] = ⊤
ArePhases processors first (phase ∷ phases) =
    (length phase.needs ≡ processors) × (first ≤ phase.published) × AllAreNeeds first phase.published phase.needs
    × ArePhases processors phase.published phases

abbrev pub IsPlan : ℕ → List PlanPhase → Type 0
IsPlan processors plan = ArePhases processors 0 plan

abbrev pub step_of : Move → Step
step_of (Publishes change) = step.Publish
step_of (HandsIn processor packet) = step.HandIn processor
step_of (Carries processor) = step.Carry processor
step_of EndsPhase = step.Barrier

-- these moves can be made from the beginning on, and end with the plan and the choices
abbrev pub Gives : ℕ → List Move → List PlanPhase → List (List (List ℕ)) → Type 0
Gives processors moves plan choices =
    (later : Moment) × Leads (beginning processors) moves later × (later.plan ≡ plan) × (later.choices ≡ choices)

-- whatever is published and handed in
abbrev pub StepsGive : ℕ → List Step → List PlanPhase → List (List (List ℕ)) → Type 0
StepsGive processors steps plan choices = (moves : List Move) → map step_of moves ≡ steps → Gives processors moves plan choices

-- in some order
abbrev pub IsReached : ℕ → List PlanPhase → List (List (List ℕ)) → Type 0
IsReached processors plan choices = (moves : List Move) × Gives processors moves plan choices
