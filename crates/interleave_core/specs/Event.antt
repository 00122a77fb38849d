-- What events make of a moment, and which can't come.
use Rattle.std.specs.Prelude.{◌≡◌, ◌<◌, true, length, position, Option, Some, None, if◌then◌else◌, ⊤}
use Rattle.std.specs.Option.{option_map}
use Rattle.interleave_core.specs.Moment.{Goes, Moment, Publishes, HandsIn, Carries, EndsPhase, waits_at}
use Rattle.interleave_core.specs.Traffic.{waits}
use Rattle.interleave_core.specs.declared.event.Event.{Event}
use Rattle.interleave_core.specs.declared.event.Event.TheVariants.{Command, HandIn, Carry, Barrier}
use Rattle.interleave_core.specs.declared.event.StepEnd.{StepEnd}
use Rattle.interleave_core.specs.declared.event.StepEnd.TheVariants.{EmptyQueue, QueueLeft}
use Rattle.xdp_state.specs.Answer.{answer, rule_fits}
use Rattle.xdp_state.specs.Book.{after}
use Rattle.xdp_state.specs.declared.judgement.Judgement.{Judgement}
use Rattle.xdp_state.specs.declared.judgement.Judgement.TheVariants.{Accepted, Shown, Refused}
use Rattle.xdp_state.specs.declared.library.Library.{Library}

-- an accepted command is published; one that is shown or refused is no step
abbrev pub Answers : Moment → Judgement → Moment → Type 0
Answers before (Accepted change) later = Goes before (Publishes change) later
Answers before Shown later = later ≡ before
Answers before (Refused reason) later = later ≡ before

abbrev pub Happens : Library → Moment → Event → Moment → Type 0
Happens library before (Command command) later =
    Answers before (answer library (after before.published) command) later
Happens library before (HandIn processor packet) later = Goes before (HandsIn processor packet) later
Happens library before (Carry processor) later = Goes before (Carries processor) later
Happens library before Barrier later = Goes before EndsPhase later

-- why an event can't come now
abbrev pub refusal : Moment → Event → Option StepEnd
refusal moment (Carry processor) = if waits_at processor moment.processors then None else Some (EmptyQueue processor)
refusal moment Barrier = option_map (λ processor. QueueLeft processor) (position waits moment.processors)
refusal moment _ = None

-- the processor is there, and a command's change has a number
abbrev pub IsPossible : Moment → Event → Type 0
IsPossible moment (Command command) = (rule_fits command ≡ true) × (length moment.published < 65536)
IsPossible moment (HandIn processor packet) = processor < length moment.processors
IsPossible moment (Carry processor) = processor < length moment.processors
IsPossible moment Barrier = ⊤
