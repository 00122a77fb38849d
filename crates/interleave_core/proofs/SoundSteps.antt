-- Each step keeps what holds at every moment.
use Rattle.std.proofs.Common.{◌≡◌, ℕ, ◌+◌, ◌≤◌, zero, suc, Bool, true, false, ◌||◌, nat_lt, List, [], ◌∷◌, ◌++◌, length, map, replicate, fold, append_assoc, append-nil, length-append, refl, sym, ap, subst, ◌∙◌, arith}
use Rattle.std.specs.List.{list_any}
use Rattle.std.proofs.lemmas.Bool.{ltb-false}
use Rattle.std.proofs.lemmas.List.{length-map, length-replicate}
use Rattle.std.proofs.lemmas.List.Sums.{fold-append}
use Rattle.interleave_core.proofs.Asking.{asked-carried, asked-higher, asked-idle, asked-pushed, phases-more, published-more}
use Rattle.interleave_core.proofs.Lanes.{length-changed_at}
use Rattle.interleave_core.specs.Moment.{Goes, Leads, Moment, Move, Publishes, HandsIn, Carries, EndsPhase, beginning, carried_by, changed_at, handed_in, phase_ended, waits_at, with_change}
use Rattle.interleave_core.specs.Reached.{AllAreNeeds, IsPlan, IsReached}
use Rattle.interleave_core.specs.Sound.{AreLegalFor, AreSound, AreWithin, IsSound, IsSoundMoment, asked_of, last_counts, published_by}
use Rattle.interleave_core.specs.Traffic.{Traffic, idle, waits, with_count, with_packet}
use Rattle.xdp_state.specs.Handed.{Handed}
use Rattle.xdp_state.specs.Legal.{AreLegalAfter, AreLegalCounts, AreLegalFrom, first_last, last_of, lasts_of, other_lasts}
use Rattle.xdp_state.specs.Work.{needs_of}
use Rattle.xdp_state.specs.declared.change.Change.{Change}
use Rattle.xdp_state.specs.declared.packet.HandIn.{HandIn}
use Rattle.xdp_state.specs.declared.plan.PlanPhase.{PlanPhase}

legal-higher : (last low high : ℕ) (needs counts : List ℕ) → low ≤ high → AreLegalCounts last low needs counts → AreLegalCounts last high needs counts
legal-higher last low high [] [] le legal = tt
legal-higher last low high [] (c ∷ cs) le legal = legal
legal-higher last low high (n ∷ ns) [] le legal = legal
legal-higher last low high (n ∷ ns) (c ∷ cs) le legal =
    (legal.0, legal.1, omega (arith, legal.2), legal-higher c low high ns cs le legal.3)

within-higher : (low high : ℕ) (needs : List ℕ) → low ≤ high → AreWithin low needs → AreWithin high needs
within-higher low high [] le within = tt
within-higher low high (n ∷ ns) le within = (omega (arith, within.0), within-higher low high ns le within.1)

sound-higher : (lasts : List ℕ) (low high : ℕ) (ts : List Traffic) → low ≤ high → AreSound lasts low ts → AreSound lasts high ts
sound-higher lasts low high [] le sound = tt
sound-higher lasts low high (t ∷ ts) le sound = (
  record {
    before = omega (arith, sound.0.before);
    counts = legal-higher (first_last lasts) low high (needs_of t.carried) t.counts le sound.0.counts;
    packets = sound.0.packets;
    needs = within-higher low high (needs_of t.queue) le sound.0.needs;
  },
  sound-higher (other_lasts lasts) low high ts le sound.1,
)

within-push : (published : ℕ) (queue : List HandIn) (h : HandIn) → h.need ≤ published → AreWithin published (needs_of queue) → AreWithin published (needs_of (queue ++ h ∷ []))
within-push published [] h need within = (need, tt)
within-push published (q ∷ queue) h need within = (within.0, within-push published queue h need within.1)

-- one packet more, which needs no more than is published
sound-packet : (last published : ℕ) (h : HandIn) (t : Traffic) → h.need ≤ published → IsSound last published t → IsSound last published (with_packet h t)
sound-packet last published h t need sound =
    record {
      before = sound.before;
      counts = sound.counts;
      packets = sym (append_assoc t.carried t.queue (h ∷ [])) ∙ ap (λ xs. xs ++ h ∷ []) sound.packets;
      needs = within-push published t.queue h need sound.needs;
    }

legal-push : (last published : ℕ) (carried : List HandIn) (counts : List ℕ) (h : HandIn) → last ≤ published → h.need ≤ published → AreLegalCounts last published (needs_of carried) counts → AreLegalCounts last published (needs_of (carried ++ h ∷ [])) (counts ++ published ∷ [])
legal-push last published [] [] h low need legal =
    let same : published ≤ published = omega arith in
    (low, need, same, tt)
legal-push last published [] (c ∷ cs) h low need legal = absurd legal
legal-push last published (x ∷ xs) [] h low need legal = absurd legal
legal-push last published (x ∷ xs) (c ∷ cs) h low need legal =
    (legal.0, legal.1, legal.2, legal-push c published xs cs h legal.2 need legal.3)

-- the first packet of the queue is carried with all that is published
sound-first : (last published : ℕ) (handed carried : List HandIn) (counts : List ℕ) (queue : List HandIn) → nat_lt 0 (length queue) ≡ true → IsSound last published (record { handed = handed; carried = carried; counts = counts; queue = queue }) → IsSound last published (with_count published (record { handed = handed; carried = carried; counts = counts; queue = queue }))
sound-first last published handed carried counts [] there sound = absurd cc
sound-first last published handed carried counts (h ∷ hs) there sound =
    record {
      before = sound.before;
      counts = legal-push last published carried counts h sound.before sound.needs.0 sound.counts;
      packets = append_assoc carried (h ∷ []) hs ∙ sound.packets;
      needs = sound.needs.1;
    }

sound-handed : (p : ℕ) (h : HandIn) (lasts : List ℕ) (published : ℕ) (ts : List Traffic) → h.need ≤ published → AreSound lasts published ts → AreSound lasts published (changed_at p (with_packet h) ts)
sound-handed p h lasts published [] need sound = tt
sound-handed zero h lasts published (t ∷ ts) need sound = (sound-packet (first_last lasts) published h t need sound.0, sound.1)
sound-handed (suc p) h lasts published (t ∷ ts) need sound = (sound.0, sound-handed p h (other_lasts lasts) published ts need sound.1)

sound-carried : (p : ℕ) (lasts : List ℕ) (published : ℕ) (ts : List Traffic) → waits_at p ts ≡ true → AreSound lasts published ts → AreSound lasts published (changed_at p (with_count published) ts)
sound-carried p lasts published [] there sound = tt
sound-carried zero lasts published (t ∷ ts) there sound =
    (sound-first (first_last lasts) published t.handed t.carried t.counts t.queue there sound.0, sound.1)
sound-carried (suc p) lasts published (t ∷ ts) there sound = (sound.0, sound-carried p (other_lasts lasts) published ts there sound.1)

none-left : (a b : Bool) → (a || b) ≡ false → record { first : a ≡ false; others : b ≡ false }
none-left true b h = absurd cc
none-left false b h = record { first = refl; others = h }

-- where nothing waits, all that was handed in was carried
all-carried : (handed carried queue : List HandIn) → nat_lt 0 (length queue) ≡ false → carried ++ queue ≡ handed → carried ≡ handed
all-carried handed carried [] none packets = sym (append-nil carried) ∙ packets
all-carried handed carried (h ∷ hs) none packets = absurd (omega (arith, ltb-false 0 (length (h ∷ hs)) none))

legal-ended : (lasts : List ℕ) (published : ℕ) (ts : List Traffic) → list_any waits ts ≡ false → AreSound lasts published ts → AreLegalFrom lasts published (map (λ (t : Traffic). needs_of t.handed) ts) (map (λ (t : Traffic). t.counts) ts)
legal-ended lasts published [] none sound = tt
legal-ended lasts published (t ∷ ts) none sound =
    let parts = none-left (waits t) (list_any waits ts) none in
    let all : t.carried ≡ t.handed = all-carried t.handed t.carried t.queue parts.first sound.0.packets in
    (subst (λ hs. AreLegalCounts (first_last lasts) published (needs_of hs) t.counts) all sound.0.counts, legal-ended (other_lasts lasts) published ts parts.others sound.1)

last-within : (last published : ℕ) (needs counts : List ℕ) → last ≤ published → AreLegalCounts last published needs counts → last_of last counts ≤ published
last-within last published [] [] low legal = low
last-within last published [] (c ∷ cs) low legal = absurd legal
last-within last published (n ∷ ns) [] low legal = absurd legal
last-within last published (n ∷ ns) (c ∷ cs) low legal = last-within c published ns cs legal.2 legal.3

-- the next phase begins with nothing
sound-idle : (lasts : List ℕ) (published : ℕ) (ts : List Traffic) → AreSound lasts published ts → AreSound (lasts_of lasts (map (λ (t : Traffic). t.counts) ts)) published (replicate (length ts) idle)
sound-idle lasts published [] sound = tt
sound-idle lasts published (t ∷ ts) sound = (
  record {
    before = last-within (first_last lasts) published (needs_of t.carried) t.counts sound.0.before sound.0.counts;
    counts = tt;
    packets = refl;
    needs = tt;
  },
  sound-idle (other_lasts lasts) published ts sound.1,
)

legal-phase : (lasts : List ℕ) (plan : List PlanPhase) (choices : List (List (List ℕ))) (asked : PlanPhase) (counts : List (List ℕ)) → length choices ≡ length plan → AreLegalAfter lasts plan choices → AreLegalFrom (fold lasts_of lasts choices) asked.published asked.needs counts → AreLegalAfter lasts (plan ++ asked ∷ []) (choices ++ counts ∷ [])
legal-phase lasts [] [] asked counts whole legal phase = (phase, tt)
legal-phase lasts [] (c ∷ choices) asked counts whole legal phase = absurd legal
legal-phase lasts (p ∷ plan) [] asked counts whole legal phase = absurd (omega arith)
legal-phase lasts (p ∷ plan) (c ∷ choices) asked counts whole legal phase =
    (legal.0, legal-phase (lasts_of lasts c) plan choices asked counts (omega arith) legal.1 phase)

pub sound-published : (before : Moment) (change : Change) → IsSoundMoment before → IsSoundMoment (with_change change before)
sound-published before change sound =
    let more : length before.published ≤ length (before.published ++ change ∷ []) = omega (arith, length-append before.published (change ∷ [])) in
    record {
      processors = sound-higher (last_counts before.choices) (length before.published) (length (before.published ++ change ∷ [])) before.processors more sound.processors;
      ended = sound.ended;
      planned = sound.planned;
      later = omega (arith, sound.later, more);
      asked = asked-higher (published_by 0 before.plan) (length before.published) (length (before.published ++ change ∷ [])) (asked_of before.processors) more sound.asked;
    }

pub sound-handed_in : (before : Moment) (p : ℕ) (packet : Handed) → IsSoundMoment before → IsSoundMoment (handed_in p packet before)
sound-handed_in before p packet sound =
    let h : HandIn = record { packet = packet; need = length before.published } in
    record {
      processors = sound-handed p h (last_counts before.choices) (length before.published) before.processors (omega arith) sound.processors;
      ended = sound.ended;
      planned = subst (λ n. IsPlan n before.plan) (sym (length-changed_at p (with_packet h) before.processors)) sound.planned;
      later = sound.later;
      asked = asked-pushed p h (published_by 0 before.plan) (length before.published) before.processors sound.later refl sound.asked;
    }

pub sound-carried_by : (before : Moment) (p : ℕ) → waits_at p before.processors ≡ true → IsSoundMoment before → IsSoundMoment (carried_by p before)
sound-carried_by before p there sound =
    record {
      processors = sound-carried p (last_counts before.choices) (length before.published) before.processors there sound.processors;
      ended = sound.ended;
      planned = subst (λ n. IsPlan n before.plan) (sym (length-changed_at p (with_count (length before.published)) before.processors)) sound.planned;
      later = sound.later;
      asked = subst (AllAreNeeds (published_by 0 before.plan) (length before.published)) (sym (asked-carried p (length before.published) before.processors)) sound.asked;
    }

pub sound-ended : (before : Moment) → list_any waits before.processors ≡ false → IsSoundMoment before → IsSoundMoment (phase_ended before)
sound-ended before none sound =
    let published = length before.published in
    let asked : PlanPhase = record { published = length before.published; needs = asked_of before.processors } in
    let whole : length asked.needs ≡ length before.processors = length-map before.processors (λ (t : Traffic). needs_of t.handed) in
    let none_waits = length-replicate (length before.processors) idle in
    let counts : List (List ℕ) = map (λ (t : Traffic). t.counts) before.processors in
    let lasts : last_counts (before.choices ++ counts ∷ []) ≡ lasts_of (last_counts before.choices) counts = fold-append lasts_of [] before.choices (counts ∷ []) in
    record {
      processors = subst (λ (ls : List ℕ). AreSound ls (length before.published) (replicate (length before.processors) idle)) (sym lasts) (sound-idle (last_counts before.choices) (length before.published) before.processors sound.processors);
      ended = record {
        whole = length-append before.choices (counts ∷ []) ∙ ap (λ n. n + 1) sound.ended.whole ∙ sym (length-append before.plan (asked ∷ []));
        legal = legal-phase [] before.plan before.choices asked counts sound.ended.whole sound.ended.legal (legal-ended (last_counts before.choices) (length before.published) before.processors none sound.processors);
      };
      planned = subst (λ n. IsPlan n (before.plan ++ asked ∷ [])) (sym none_waits) (phases-more (length before.processors) 0 before.plan asked whole sound.later sound.asked sound.planned);
      later = omega (arith, published-more 0 before.plan asked);
      asked = asked-idle (published_by 0 (before.plan ++ asked ∷ [])) (length before.published) (length before.processors);
    }

pub sound-goes : (before : Moment) (move : Move) (later : Moment) → IsSoundMoment before → Goes before move later → IsSoundMoment later
sound-goes before (Publishes change) later sound goes = subst IsSoundMoment (sym goes) (sound-published before change sound)
sound-goes before (HandsIn p packet) later sound goes = subst IsSoundMoment (sym goes.1) (sound-handed_in before p packet sound)
sound-goes before (Carries p) later sound goes = subst IsSoundMoment (sym goes.1) (sound-carried_by before p goes.0 sound)
sound-goes before EndsPhase later sound goes = subst IsSoundMoment (sym goes.1) (sound-ended before goes.0 sound)

pub sound-leads : (before : Moment) (moves : List Move) (later : Moment) → IsSoundMoment before → Leads before moves later → IsSoundMoment later
sound-leads before [] later sound leads = subst IsSoundMoment (sym leads) sound
sound-leads before (move ∷ moves) later sound leads =
    sound-leads leads.0 moves later (sound-goes before move leads.0 sound leads.1) leads.2

sound-all_idle : (processors : ℕ) → AreSound [] 0 (replicate processors idle)
sound-all_idle zero = tt
sound-all_idle (suc processors) =
    let none : 0 ≤ 0 = omega arith in
    (record { before = none; counts = tt; packets = refl; needs = tt }, sound-all_idle processors)

pub sound-beginning : (processors : ℕ) → IsSoundMoment (beginning processors)
sound-beginning processors = record {
  processors = sound-all_idle processors;
  ended = record { whole = refl; legal = tt };
  planned = tt;
  later = omega arith;
  asked = asked-idle 0 0 processors;
}

pub legal-reached : (processors : ℕ) (plan : List PlanPhase) (choices : List (List (List ℕ))) → IsReached processors plan choices → AreLegalFor plan choices
legal-reached processors plan choices reached =
    let gives = reached.1 in
    let sound = sound-leads (beginning processors) reached.0 gives.0 (sound-beginning processors) gives.1 in
    subst (λ p. AreLegalFor p choices) gives.2 (subst (λ c. AreLegalFor gives.0.plan c) gives.3 sound.ended)
