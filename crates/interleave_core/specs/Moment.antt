-- Every order in which publications, hand-ins and carries can come. Each processor has a queue of its own and takes from it
-- whenever it will; nothing else is asked but that a phase ends only where no packet waits.
use Rattle.std.specs.Prelude.{◌≡◌, ℕ, ◌<◌, Bool, true, false, zero, suc, List, [], ◌∷◌, ◌++◌, length, map, replicate}
use Rattle.std.specs.List.{list_any}
use Rattle.interleave_core.specs.Traffic.{Traffic, idle, waits, with_count, with_packet}
use Rattle.xdp_state.specs.Handed.{Handed}
use Rattle.xdp_state.specs.Work.{needs_of}
use Rattle.xdp_state.specs.declared.change.Change.{Change}
use Rattle.xdp_state.specs.declared.plan.PlanPhase.{PlanPhase}

-- A moment of a run.
pub record Moment : Type 0 where
  -- what was published so far, in order
  pub published : List Change
  -- by processor
  pub processors : List Traffic
  -- the phases that have ended, and the counts of their packets
  pub plan : List PlanPhase
  pub choices : List (List (List ℕ))

abbrev pub beginning : ℕ → Moment
beginning processors = record { published = []; processors = replicate processors idle; plan = []; choices = [] }

-- What may come next, with what is published or handed in.
pub data Move : Type 0 where
  Publishes : Change → Move
  HandsIn : ℕ → Handed → Move
  Carries : ℕ → Move
  EndsPhase : Move

-- the processors, of which the one with this number is changed
abbrev pub changed_at : ℕ → (Traffic → Traffic) → List Traffic → List Traffic
changed_at processor change [] = []
changed_at zero change (traffic ∷ more) = change traffic ∷ more
changed_at (suc processor) change (traffic ∷ more) = traffic ∷ changed_at processor change more

-- a packet waits for the processor with this number
abbrev pub waits_at : ℕ → List Traffic → Bool
waits_at processor [] = false
waits_at zero (traffic ∷ more) = waits traffic
waits_at (suc processor) (traffic ∷ more) = waits_at processor more

abbrev pub with_change : Change → Moment → Moment
with_change change moment = record moment { published = moment.published ++ change ∷ [] }

abbrev pub handed_in : ℕ → Handed → Moment → Moment
handed_in processor packet moment = record moment {
  processors = changed_at processor (with_packet (record { packet = packet; need = length moment.published })) moment.processors;
}

abbrev pub carried_by : ℕ → Moment → Moment
carried_by processor moment = record moment {
  processors = changed_at processor (with_count (length moment.published)) moment.processors;
}

abbrev pub phase_ended : Moment → Moment
phase_ended moment = record {
  published = moment.published;
  processors = replicate (length moment.processors) idle;
  plan = moment.plan ++ record {
    published = length moment.published;
    needs = map (λ traffic. needs_of traffic.handed) moment.processors;
  } ∷ [];
  choices = moment.choices ++ map (λ traffic. traffic.counts) moment.processors ∷ [];
}

-- A step, which goes from a moment to a later one.
abbrev pub Goes : Moment → Move → Moment → Type 0
Goes before (Publishes change) later = later ≡ with_change change before
Goes before (HandsIn processor packet) later =
    (processor < length before.processors) × (later ≡ handed_in processor packet before)
Goes before (Carries processor) later = (waits_at processor before.processors ≡ true) × (later ≡ carried_by processor before)
Goes before EndsPhase later = (list_any waits before.processors ≡ false) × (later ≡ phase_ended before)

-- steps, one after another
abbrev pub Leads : Moment → List Move → Moment → Type 0
Leads before [] later = later ≡ before
Leads before (move ∷ moves) later = (next : Moment) × Goes before move next × Leads next moves later
