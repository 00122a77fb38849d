-- What holds at every moment of a run.
use Rattle.std.specs.Prelude.{◌≡◌, ℕ, ◌≤◌, List, [], ◌∷◌, ◌++◌, length, map, fold, ⊤}
use Rattle.interleave_core.specs.Moment.{Moment}
use Rattle.interleave_core.specs.Reached.{AllAreNeeds, IsPlan}
use Rattle.interleave_core.specs.Traffic.{Traffic}
use Rattle.xdp_state.specs.Legal.{AreLegal, AreLegalCounts, first_last, lasts_of, other_lasts}
use Rattle.xdp_state.specs.Work.{needs_of}
use Rattle.xdp_state.specs.declared.plan.PlanPhase.{PlanPhase}

-- the choices are for all phases of the plan, and legal
pub record AreLegalFor (plan : List PlanPhase) (choices : List (List (List ℕ))) : Type 0 where
  pub whole : length choices ≡ length plan
  pub legal : AreLegal plan choices

-- the last count of each processor, over some phases
abbrev pub last_counts : List (List (List ℕ)) → List ℕ
last_counts choices = fold lasts_of [] choices

-- none is above the number
abbrev pub AreWithin : ℕ → List ℕ → Type 0
AreWithin published [] = ⊤
AreWithin published (need ∷ needs) = (need ≤ published) × AreWithin published needs

-- a processor whose last count in the phases before is given
pub record IsSound (last published : ℕ) (traffic : Traffic) : Type 0 where
  -- no count of the phases before is above the publications so far
  pub before : last ≤ published
  -- its counts never fall, and each is at least its packet's need and at most the publications so far
  pub counts : AreLegalCounts last published (needs_of traffic.carried) traffic.counts
  -- the packets that were counted, followed by its queue, are the packets that were handed in
  pub packets : traffic.carried ++ traffic.queue ≡ traffic.handed
  -- no packet that waits needs more than the publications so far
  pub needs : AreWithin published (needs_of traffic.queue)

abbrev pub AreSound : List ℕ → ℕ → List Traffic → Type 0
AreSound lasts published [] = ⊤
AreSound lasts published (traffic ∷ more) =
    IsSound (first_last lasts) published traffic × AreSound (other_lasts lasts) published more

-- the publications at the end of the last phase, where those before the first are given
abbrev pub published_by : ℕ → List PlanPhase → ℕ
published_by first [] = first
published_by first (phase ∷ phases) = published_by phase.published phases

-- by processor the needs of the packets of the phase under way
abbrev pub asked_of : List Traffic → List (List ℕ)
asked_of processors = map (λ traffic. needs_of traffic.handed) processors

pub record IsSoundMoment (moment : Moment) : Type 0 where
  pub processors : AreSound (last_counts moment.choices) (length moment.published) moment.processors
  -- the counts of the phases that have ended are legal
  pub ended : AreLegalFor moment.plan moment.choices
  -- they are those of a plan
  pub planned : IsPlan (length moment.processors) moment.plan
  -- the needs since then never fall, and are between the publications at the last phase's end and those so far
  pub later : published_by 0 moment.plan ≤ length moment.published
  pub asked : AllAreNeeds (published_by 0 moment.plan) (length moment.published) (asked_of moment.processors)
