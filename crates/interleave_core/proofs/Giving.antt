-- Legal choices are given by the steps of their schedule, whatever is published and handed in; and only legal ones by any steps.
use Rattle.std.proofs.Common.{◌≡◌, ℕ, false, List, [], ◌∷◌, map, replicate, refl, sym, ap, subst, ◌∙◌}
use Rattle.interleave_core.proofs.Numbers.{Numbers, Runs, no_line, numbers-beginning, numbers_of, runs-lead}
use Rattle.interleave_core.proofs.Running.{numbers, run-plan}
use Rattle.interleave_core.specs.Moment.{Move, Publishes, HandsIn, Carries, EndsPhase, beginning}
use Rattle.interleave_core.specs.Reached.{IsPlan, IsReached, StepsGive, step_of}
use Rattle.interleave_core.specs.Schedule.{plan_steps}
use Rattle.interleave_core.specs.Sound.{AreLegalFor}
use Rattle.interleave_core.specs.declared.step.Step.{Step}
use Rattle.interleave_core.specs.declared.step.Step.TheVariants as step
use Rattle.xdp_state.specs.declared.change.Change.TheVariants.{Detach}
use Rattle.xdp_state.specs.declared.plan.PlanPhase.{PlanPhase}

pub steps-give : (processors : ℕ) (plan : List PlanPhase) (choices : List (List (List ℕ))) → IsPlan processors plan → AreLegalFor plan choices → StepsGive processors (plan_steps 0 plan choices) plan choices
steps-give processors plan choices is legal =
    λ moves steps.
    let run = run-plan processors 0 [] plan choices [] [] is legal.whole legal.legal in
    let from : Runs (plan_steps 0 plan choices) (numbers_of (beginning processors)) (numbers run.0 (replicate processors no_line) plan choices) = subst (λ x. Runs (plan_steps 0 plan choices) x (numbers run.0 (replicate processors no_line) plan choices)) (sym (numbers-beginning processors)) run.1 in
    let all = subst (λ ss. Runs ss (numbers_of (beginning processors)) (numbers run.0 (replicate processors no_line) plan choices)) (sym steps) from in
    let led = runs-lead (beginning processors) moves (numbers run.0 (replicate processors no_line) plan choices) all in
    (led.0, led.1, ap (λ (x : Numbers). x.plan) led.2, ap (λ (x : Numbers). x.choices) led.2)

-- some move of a step
some_move : Step → Move
some_move step.Publish = Publishes (Detach 0 0 false)
some_move (step.HandIn p) = HandsIn p (record { id = 0; timestamp = 0; frame = [] })
some_move (step.Carry p) = Carries p
some_move step.Barrier = EndsPhase

step_of-some : (s : Step) → step_of (some_move s) ≡ s
unfolding some_move
step_of-some step.Publish = refl
step_of-some (step.HandIn p) = refl
step_of-some (step.Carry p) = refl
step_of-some step.Barrier = refl

steps-some : (steps : List Step) → map step_of (map some_move steps) ≡ steps
steps-some [] = refl
steps-some (s ∷ steps) = ap (λ x. x ∷ map step_of (map some_move steps)) (step_of-some s) ∙ ap (λ xs. s ∷ xs) (steps-some steps)

pub legal-is_reached : (processors : ℕ) (plan : List PlanPhase) (choices : List (List (List ℕ))) → IsPlan processors plan → AreLegalFor plan choices → IsReached processors plan choices
legal-is_reached processors plan choices is legal =
    (map some_move (plan_steps 0 plan choices), steps-give processors plan choices is legal (map some_move (plan_steps 0 plan choices)) (steps-some (plan_steps 0 plan choices)))
