-- Which counts packets may be carried with: each at least the one before it on its processor, over all phases, and at least
-- its packet's need, and at most the publications by its phase's end.
use Rattle.std.specs.Prelude.{ℕ, ◌≤◌, List, [], ◌∷◌, ⊤}
use Rattle.xdp_state.specs.declared.plan.PlanPhase.{PlanPhase}

-- the needs and the counts of a processor, from the last count before
abbrev pub AreLegalCounts : ℕ → ℕ → List ℕ → List ℕ → Type 0
AreLegalCounts last published [] [] = ⊤
AreLegalCounts last published (need ∷ needs) (count ∷ counts) =
    (last ≤ count) × (need ≤ count) × (count ≤ published) × AreLegalCounts count published needs counts
AreLegalCounts last published _ _ = ⊥

-- a processor that carried nothing yet has 0
abbrev pub first_last : List ℕ → ℕ
first_last [] = 0
first_last (last ∷ lasts) = last

abbrev pub other_lasts : List ℕ → List ℕ
other_lasts [] = []
other_lasts (last ∷ lasts) = lasts

-- by processor, with the last count of each
abbrev pub AreLegalFrom : List ℕ → ℕ → List (List ℕ) → List (List ℕ) → Type 0
AreLegalFrom lasts published [] [] = ⊤
AreLegalFrom lasts published (needs ∷ more) (counts ∷ others) =
    AreLegalCounts (first_last lasts) published needs counts × AreLegalFrom (other_lasts lasts) published more others
AreLegalFrom lasts published _ _ = ⊥

-- the last of some counts, or the one before them
abbrev pub last_of : ℕ → List ℕ → ℕ
last_of last [] = last
last_of last (count ∷ counts) = last_of count counts

-- by processor, after these counts
abbrev pub lasts_of : List ℕ → List (List ℕ) → List ℕ
lasts_of lasts [] = lasts
lasts_of lasts (counts ∷ more) = last_of (first_last lasts) counts ∷ lasts_of (other_lasts lasts) more

-- by phase, as far as the choices go
abbrev pub AreLegalAfter : List ℕ → List PlanPhase → List (List (List ℕ)) → Type 0
AreLegalAfter lasts phases [] = ⊤
AreLegalAfter lasts (phase ∷ phases) (counts ∷ choices) =
    AreLegalFrom lasts phase.published phase.needs counts × AreLegalAfter (lasts_of lasts counts) phases choices
AreLegalAfter lasts [] (counts ∷ choices) = ⊥

abbrev pub AreLegal : List PlanPhase → List (List (List ℕ)) → Type 0
AreLegal plan choices = AreLegalAfter [] plan choices
