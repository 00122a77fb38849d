-- Legal counts, as phases end whose packets were carried at their hand-in.
use Rattle.std.proofs.Common.{◌≡◌, ℕ, ◌≤◌, List, [], ◌∷◌, ◌++◌, length, arith, refl}
use Rattle.xdp_state.specs.Legal.{AreLegalAfter, AreLegalCounts, AreLegalFrom, first_last, last_of, lasts_of, other_lasts}
use Rattle.xdp_state.specs.Work.{all_needs, needs_of, plan_of, plan_phase}
use Rattle.xdp_state.specs.declared.packet.HandIn.{HandIn}
use Rattle.xdp_state.specs.declared.plan.PlanPhase.{PlanPhase}
use Rattle.xdp_tool.specs.Plan.{Phase, works_of}
use Rattle.xdp_tool.specs.Ran.{AllWithin, lasts_after}
use Rattle.xdp_tool.specs.Walked.{AreSteady}

-- from a lower last count
legal-lower : (low last published : ℕ) (needs counts : List ℕ) → last ≤ low → AreLegalCounts low published needs counts → AreLegalCounts last published needs counts
legal-lower low last published [] [] le legal = legal
legal-lower low last published [] (c ∷ cs) le legal = legal
legal-lower low last published (n ∷ ns) [] le legal = legal
legal-lower low last published (n ∷ ns) (c ∷ cs) le legal = (omega (arith, legal.0), legal.1, legal.2, legal.3)

last-within : (last published : ℕ) (needs counts : List ℕ) → last ≤ published → AreLegalCounts last published needs counts → last_of last counts ≤ published
last-within last published [] [] le legal = le
last-within last published [] (c ∷ cs) le legal = absurd legal
last-within last published (n ∷ ns) [] le legal = absurd legal
last-within last published (n ∷ ns) (c ∷ cs) le legal = last-within c published ns cs legal.2 legal.3

within-higher : (low high : ℕ) (lasts : List ℕ) → low ≤ high → AllWithin low lasts → AllWithin high lasts
within-higher low high [] le within = tt
within-higher low high (l ∷ lasts) le within = (omega (arith, within.0), within-higher low high lasts le within.1)

first-within : (low : ℕ) (lasts : List ℕ) → AllWithin low lasts → first_last lasts ≤ low
first-within low [] within = omega arith
first-within low (l ∷ lasts) within = within.0

others-within : (low : ℕ) (lasts : List ℕ) → AllWithin low lasts → AllWithin low (other_lasts lasts)
others-within low [] within = tt
others-within low (l ∷ lasts) within = within.1

-- counts at hand-in are legal on each processor
pub legal-steady : (low n : ℕ) (lasts : List ℕ) (hss : List (List HandIn)) → AllWithin low lasts → AreSteady low n hss → AreLegalFrom lasts n (all_needs hss) (all_needs hss)
legal-steady low n lasts [] within steady = tt
legal-steady low n lasts (hs ∷ hss) within steady = (
  legal-lower low (first_last lasts) n (needs_of hs) (needs_of hs) (first-within low lasts within) steady.0,
  legal-steady low n (other_lasts lasts) hss (others-within low lasts within) steady.1,
)

-- at the phase's end the last counts are within its publications
pub lasts-within : (low n : ℕ) (lasts : List ℕ) (needs counts : List (List ℕ)) → low ≤ n → AllWithin low lasts → AreLegalFrom lasts n needs counts → AllWithin n (lasts_of lasts counts)
lasts-within low n lasts [] [] le within legal = within-higher low n lasts le within
lasts-within low n lasts [] (cs ∷ css) le within legal = absurd legal
lasts-within low n lasts (ns ∷ nss) [] le within legal = absurd legal
lasts-within low n lasts (ns ∷ nss) (cs ∷ css) le within legal = (
  last-within (first_last lasts) n ns cs (omega (arith, le, first-within low lasts within)) legal.0,
  lasts-within low n (other_lasts lasts) nss css le (others-within low lasts within) legal.1,
)

pub lasts_after-more : (lasts : List ℕ) (choices : List (List (List ℕ))) (counts : List (List ℕ)) → lasts_after lasts (choices ++ counts ∷ []) ≡ lasts_of (lasts_after lasts choices) counts
lasts_after-more lasts [] counts = refl
lasts_after-more lasts (c ∷ choices) counts = lasts_after-more (lasts_of lasts c) choices counts

-- what of some phases decides which counts are legal
abbrev pub plans : List Phase → List PlanPhase
plans phases = plan_of (works_of phases)

-- one phase more is covered
pub legal-more : (lasts : List ℕ) (done : List Phase) (phase : Phase) (rest : List Phase) (choices : List (List (List ℕ))) (counts : List (List ℕ)) → length choices ≡ length done → AreLegalAfter lasts (plans done) choices → AreLegalFrom (lasts_after lasts choices) (plan_phase phase.work).published (plan_phase phase.work).needs counts → AreLegalAfter lasts (plans (done ++ phase ∷ rest)) (choices ++ counts ∷ [])
legal-more lasts [] phase rest [] counts same legal this = (this, tt)
legal-more lasts [] phase rest (c ∷ choices) counts same legal this = absurd (omega (arith, same))
legal-more lasts (d ∷ done) phase rest [] counts same legal this = absurd (omega (arith, same))
legal-more lasts (d ∷ done) phase rest (c ∷ choices) counts same legal this =
    (legal.0, legal-more (lasts_of lasts c) done phase rest choices counts (omega (arith, same)) legal.1 this)

-- phases that aren't covered don't matter
pub legal-front : (lasts : List ℕ) (done rest : List Phase) (choices : List (List (List ℕ))) → AreLegalAfter lasts (plans done) choices → AreLegalAfter lasts (plans (done ++ rest)) choices
legal-front lasts [] rest [] legal = tt
legal-front lasts [] rest (c ∷ choices) legal = absurd legal
legal-front lasts (d ∷ done) rest [] legal = tt
legal-front lasts (d ∷ done) rest (c ∷ choices) legal = (legal.0, legal-front (lasts_of lasts c) done rest choices legal.1)
