-- Each step keeps that needs are those of a plan.
use Rattle.std.proofs.Common.{◌≡◌, ℕ, ◌≤◌, zero, suc, List, [], ◌∷◌, ◌++◌, length, replicate, refl, ap, arith}
use Rattle.interleave_core.specs.Moment.{changed_at}
use Rattle.interleave_core.specs.Reached.{AllAreNeeds, AreNeeds, ArePhases}
use Rattle.interleave_core.specs.Sound.{asked_of, published_by}
use Rattle.interleave_core.specs.Traffic.{Traffic, idle, with_count, with_packet}
use Rattle.xdp_state.specs.Work.{needs_of}
use Rattle.xdp_state.specs.declared.packet.HandIn.{HandIn}
use Rattle.xdp_state.specs.declared.plan.PlanPhase.{PlanPhase}

needs-higher : (first low high : ℕ) (needs : List ℕ) → low ≤ high → AreNeeds first low needs → AreNeeds first high needs
needs-higher first low high [] le are = tt
needs-higher first low high (n ∷ ns) le are = (are.0, omega (arith, are.1), needs-higher n low high ns le are.2)

pub asked-higher : (first low high : ℕ) (lists : List (List ℕ)) → low ≤ high → AllAreNeeds first low lists → AllAreNeeds first high lists
asked-higher first low high [] le are = tt
asked-higher first low high (ns ∷ more) le are = (needs-higher first low high ns le are.0, asked-higher first low high more le are.1)

-- a packet that is handed in now needs all that is published
needs-push : (first last : ℕ) (handed : List HandIn) (h : HandIn) → first ≤ last → h.need ≡ last → AreNeeds first last (needs_of handed) → AreNeeds first last (needs_of (handed ++ h ∷ []))
needs-push first last [] h le is are = (omega (arith, is), omega (arith, is), tt)
needs-push first last (x ∷ xs) h le is are = (are.0, are.1, needs-push x.need last xs h are.1 is are.2)

pub asked-pushed : (p : ℕ) (h : HandIn) (first last : ℕ) (ts : List Traffic) → first ≤ last → h.need ≡ last → AllAreNeeds first last (asked_of ts) → AllAreNeeds first last (asked_of (changed_at p (with_packet h) ts))
asked-pushed p h first last [] le is are = tt
asked-pushed zero h first last (t ∷ ts) le is are = (needs-push first last t.handed h le is are.0, are.1)
asked-pushed (suc p) h first last (t ∷ ts) le is are = (are.0, asked-pushed p h first last ts le is are.1)

-- a carry asks nothing new
pub asked-carried : (p count : ℕ) (ts : List Traffic) → asked_of (changed_at p (with_count count) ts) ≡ asked_of ts
asked-carried p count [] = refl
asked-carried zero count (t ∷ ts) = refl
asked-carried (suc p) count (t ∷ ts) = ap (λ more. needs_of t.handed ∷ more) (asked-carried p count ts)

pub asked-idle : (first last processors : ℕ) → AllAreNeeds first last (asked_of (replicate processors idle))
asked-idle first last zero = tt
asked-idle first last (suc processors) = (tt, asked-idle first last processors)

-- one phase more
pub phases-more : (processors first : ℕ) (plan : List PlanPhase) (phase : PlanPhase) → length phase.needs ≡ processors → published_by first plan ≤ phase.published → AllAreNeeds (published_by first plan) phase.published phase.needs → ArePhases processors first plan → ArePhases processors first (plan ++ phase ∷ [])
phases-more processors first [] phase whole later needs are = (whole, later, needs, tt)
phases-more processors first (p ∷ plan) phase whole later needs are = (are.0, are.1, are.2, phases-more processors p.published plan phase whole later needs are.3)

pub published-more : (first : ℕ) (plan : List PlanPhase) (phase : PlanPhase) → published_by first (plan ++ phase ∷ []) ≡ phase.published
published-more first [] phase = refl
published-more first (p ∷ plan) phase = published-more p.published plan phase
