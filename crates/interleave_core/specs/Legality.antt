-- Where choices are first not legal for a plan.
use Rattle.std.specs.Prelude.{ℕ, ◌+◌, ◌==◌, nat_lt, min, List, [], ◌∷◌, length, Option, Some, None, if◌then◌else◌}
use Rattle.std.specs.Option.{option_or}
use Rattle.interleave_core.specs.declared.illegal.Illegal.{Illegal}
use Rattle.interleave_core.specs.declared.illegal.LegalRule.{LegalRule}
use Rattle.interleave_core.specs.declared.illegal.LegalRule.TheVariants.{Fell, BelowNeed, AbovePhase, Shape}
use Rattle.xdp_state.specs.Legal.{first_last, lasts_of, other_lasts}
use Rattle.xdp_state.specs.declared.plan.PlanPhase.{PlanPhase}

abbrev pub breaks : LegalRule → ℕ → ℕ → ℕ → Option Illegal
breaks rule phase processor packet =
    Some (record { phase = phase; processor = processor; packet = packet; rule = rule })

-- a processor's packets, in a phase of so many needs and counts
abbrev pub lacking_packet : ℕ → ℕ → List ℕ → List ℕ → Option Illegal
lacking_packet phase processor needs counts =
    if length needs == length counts then None
    else breaks Shape phase processor (min (length needs) (length counts))

-- from a processor's number on
abbrev pub lacking_in : ℕ → ℕ → List (List ℕ) → List (List ℕ) → Option Illegal
lacking_in phase processor [] [] = None
lacking_in phase processor (needs ∷ more) (counts ∷ others) =
    option_or (lacking_packet phase processor needs counts) (lacking_in phase (processor + 1) more others)
lacking_in phase processor _ _ = breaks Shape phase processor 0

-- from a phase's number on: the first place that the plan or the choices lack
abbrev pub lacking_from : ℕ → List PlanPhase → List (List (List ℕ)) → Option Illegal
lacking_from phase [] [] = None
lacking_from phase (asked ∷ plan) (counts ∷ choices) =
    option_or (lacking_in phase 0 asked.needs counts) (lacking_from (phase + 1) plan choices)
lacking_from phase _ _ = breaks Shape phase 0 0

-- a packet's count, after the last one on its processor, in a phase with so many publications
abbrev pub illegal_packet : ℕ → ℕ → ℕ → ℕ → ℕ → ℕ → ℕ → Option Illegal
illegal_packet phase processor packet last published need count =
    if nat_lt count last then breaks Fell phase processor packet
    else if nat_lt count need then breaks BelowNeed phase processor packet
    else if nat_lt published count then breaks AbovePhase phase processor packet
    else None

-- from a packet's number on
abbrev pub illegal_on : ℕ → ℕ → ℕ → ℕ → ℕ → List ℕ → List ℕ → Option Illegal
illegal_on phase processor packet last published (need ∷ needs) (count ∷ counts) =
    option_or (illegal_packet phase processor packet last published need count)
    (illegal_on phase processor (packet + 1) count published needs counts)
illegal_on phase processor packet last published _ _ = None

-- from a processor's number on, with the last counts in the phases before
abbrev pub illegal_in : ℕ → ℕ → List ℕ → ℕ → List (List ℕ) → List (List ℕ) → Option Illegal
illegal_in phase processor lasts published (needs ∷ more) (counts ∷ others) =
    option_or (illegal_on phase processor 0 (first_last lasts) published needs counts)
    (illegal_in phase (processor + 1) (other_lasts lasts) published more others)
illegal_in phase processor lasts published _ _ = None

-- from a phase's number on: the first packet that breaks a rule
abbrev pub illegal_from : ℕ → List ℕ → List PlanPhase → List (List (List ℕ)) → Option Illegal
illegal_from phase lasts (asked ∷ plan) (counts ∷ choices) =
    option_or (illegal_in phase 0 lasts asked.published asked.needs counts)
    (illegal_from (phase + 1) (lasts_of lasts counts) plan choices)
illegal_from phase lasts _ _ = None

abbrev pub first_illegal : List PlanPhase → List (List (List ℕ)) → Option Illegal
first_illegal plan choices = option_or (lacking_from 0 plan choices) (illegal_from 0 [] plan choices)
