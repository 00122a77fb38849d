-- One list of steps among those that give a plan and choices: everything as early as its number allows.
use Rattle.std.specs.Prelude.{ℕ, ◌+◌, ◌-◌, nat_le, zero, suc, List, [], ◌∷◌, ◌++◌, drop, map, replicate, if◌then◌else◌}
use Rattle.std.specs.Borrow.{Bor}
use Rattle.interleave_core.specs.declared.step.Step.{Step}
use Rattle.interleave_core.specs.declared.step.Step.TheVariants as step
use Rattle.xdp_state.specs.declared.plan.PlanPhase.{PlanPhase}

-- lists that are lent
abbrev pub rows : List (Bor (List ℕ)) → List (List ℕ)
rows slices = map (λ slice. slice.now) slices

-- how many numbers come before the first that is above what is published
abbrev pub due : ℕ → List ℕ → ℕ
due published [] = 0
due published (number ∷ numbers) = if nat_le number published then suc (due published numbers) else 0

-- the numbers from there on
abbrev pub left_of : ℕ → List ℕ → List ℕ
left_of published numbers = drop (due published numbers) numbers

abbrev pub all_left : ℕ → List (List ℕ) → List (List ℕ)
all_left published lists = map (left_of published) lists

-- from a processor's number on
abbrev pub due_steps : (ℕ → Step) → ℕ → ℕ → List (List ℕ) → List Step
due_steps of published processor [] = []
due_steps of published processor (numbers ∷ more) =
    replicate (due published numbers) (of processor) ++ due_steps of published (processor + 1) more

abbrev pub all_due : ℕ → List (List ℕ) → List (List ℕ) → List Step
all_due published needs counts =
    due_steps (λ processor. step.HandIn processor) published 0 needs
    ++ due_steps (λ processor. step.Carry processor) published 0 counts

-- after what is due with so many publications, of which some are still to come
abbrev pub steps_after : ℕ → ℕ → List (List ℕ) → List (List ℕ) → List Step
steps_after published zero needs counts = []
steps_after published (suc more) needs counts =
    step.Publish ∷ (all_due (published + 1) needs counts
    ++ steps_after (published + 1) more (all_left (published + 1) needs) (all_left (published + 1) counts))

abbrev pub phase_steps : ℕ → PlanPhase → List (List ℕ) → List Step
phase_steps first phase counts =
    all_due first phase.needs counts
    ++ (steps_after first (phase.published - first) (all_left first phase.needs) (all_left first counts) ++ step.Barrier ∷ [])

abbrev pub plan_steps : ℕ → List PlanPhase → List (List (List ℕ)) → List Step
plan_steps first (phase ∷ phases) (counts ∷ choices) =
    phase_steps first phase counts ++ plan_steps phase.published phases choices
plan_steps first _ _ = []
