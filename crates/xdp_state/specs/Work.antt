-- What a phase has for its processors, and what of it decides which counts are legal.
use Rattle.std.specs.Prelude.{ℕ, List, length, map}
use Rattle.xdp_state.specs.declared.change.Change.{Change}
use Rattle.xdp_state.specs.declared.packet.HandIn.{HandIn}
use Rattle.xdp_state.specs.declared.plan.PlanPhase.{PlanPhase}

pub record Work : Type 0 where
  -- all publications accepted until the phase's end, also those of the phases before
  pub published : List Change
  -- by processor, in order of hand-in
  pub hand_ins : List (List HandIn)

abbrev pub needs_of : List HandIn → List ℕ
needs_of hand_ins = map (λ h. h.need) hand_ins

abbrev pub all_needs : List (List HandIn) → List (List ℕ)
all_needs hand_ins = map needs_of hand_ins

abbrev pub plan_phase : Work → PlanPhase
plan_phase work = record { published = length work.published; needs = all_needs work.hand_ins }

abbrev pub plan_of : List Work → List PlanPhase
plan_of works = map plan_phase works
