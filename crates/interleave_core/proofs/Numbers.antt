-- Moments seen by their numbers alone: what is published and handed in plays no part in which steps can be made.
use Rattle.std.proofs.Common.{◌≡◌, ℕ, ◌+◌, ◌<◌, zero, suc, Bool, true, false, nat_lt, List, [], ◌∷◌, ◌++◌, length, map, replicate, drop, length-append, refl, sym, ap, subst, ◌∙◌, arith}
use Rattle.std.specs.Prelude.{⊤}
use Rattle.std.specs.List.{list_any}
use Rattle.std.proofs.lemmas.List.{length-map, map-append}
use Rattle.interleave_core.specs.Moment.{Goes, Leads, Moment, Move, Publishes, HandsIn, Carries, EndsPhase, beginning, carried_by, changed_at, handed_in, phase_ended, waits_at, with_change}
use Rattle.interleave_core.specs.Reached.{step_of}
use Rattle.interleave_core.specs.Traffic.{Traffic, idle, waits, with_count, with_packet}
use Rattle.interleave_core.specs.declared.step.Step.{Step}
use Rattle.interleave_core.specs.declared.step.Step.TheVariants as step
use Rattle.xdp_state.specs.Work.{needs_of}
use Rattle.xdp_state.specs.declared.packet.HandIn.{HandIn}
use Rattle.xdp_state.specs.declared.plan.PlanPhase.{PlanPhase}

-- the needs of a processor's packets, and its counts
pub record Line : Type 0 where
  pub handed : List ℕ
  pub counts : List ℕ
  pub queue : List ℕ

pub record Numbers : Type 0 where
  pub published : ℕ
  pub lines : List Line
  pub plan : List PlanPhase
  pub choices : List (List (List ℕ))

abbrev pub line_of : Traffic → Line
line_of t = record { handed = needs_of t.handed; counts = t.counts; queue = needs_of t.queue }

abbrev pub numbers_of : Moment → Numbers
numbers_of m = record {
  published = length m.published;
  lines = map line_of m.processors;
  plan = m.plan;
  choices = m.choices;
}

abbrev pub no_line : Line
no_line = record { handed = []; counts = []; queue = [] }

abbrev pub line_waits : Line → Bool
line_waits line = nat_lt 0 (length line.queue)

abbrev pub lines_at : ℕ → (Line → Line) → List Line → List Line
lines_at processor change [] = []
lines_at zero change (line ∷ lines) = change line ∷ lines
lines_at (suc processor) change (line ∷ lines) = line ∷ lines_at processor change lines

abbrev pub line_waits_at : ℕ → List Line → Bool
line_waits_at processor [] = false
line_waits_at zero (line ∷ lines) = line_waits line
line_waits_at (suc processor) (line ∷ lines) = line_waits_at processor lines

abbrev pub one_handed : ℕ → Line → Line
one_handed need line = record { handed = line.handed ++ need ∷ []; counts = line.counts; queue = line.queue ++ need ∷ [] }

abbrev pub one_carried : ℕ → Line → Line
one_carried count line = record { handed = line.handed; counts = line.counts ++ count ∷ []; queue = drop 1 line.queue }

abbrev pub Ready : Step → Numbers → Type 0
Ready step.Publish x = ⊤
Ready (step.HandIn p) x = p < length x.lines
Ready (step.Carry p) x = line_waits_at p x.lines ≡ true
Ready step.Barrier x = list_any line_waits x.lines ≡ false

abbrev pub done : Step → Numbers → Numbers
done step.Publish x = record { published = x.published + 1; lines = x.lines; plan = x.plan; choices = x.choices }
done (step.HandIn p) x = record { published = x.published; lines = lines_at p (one_handed x.published) x.lines; plan = x.plan; choices = x.choices }
done (step.Carry p) x = record { published = x.published; lines = lines_at p (one_carried x.published) x.lines; plan = x.plan; choices = x.choices }
done step.Barrier x = record {
  published = x.published;
  lines = replicate (length x.lines) no_line;
  plan = x.plan ++ record { published = x.published; needs = map (λ (line : Line). line.handed) x.lines } ∷ [];
  choices = x.choices ++ map (λ (line : Line). line.counts) x.lines ∷ [];
}

abbrev pub Runs : List Step → Numbers → Numbers → Type 0
Runs [] x y = y ≡ x
Runs (s ∷ steps) x y = Ready s x × Runs steps (done s x) y

pub runs-append : (first second : List Step) (x y z : Numbers) → Runs first x y → Runs second y z → Runs (first ++ second) x z
runs-append [] second x y z one two = subst (λ w. Runs second w z) one two
runs-append (s ∷ first) second x y z one two = (one.0, runs-append first second (done s x) y z one.1 two)

needs-push : (hs : List HandIn) (h : HandIn) → needs_of (hs ++ h ∷ []) ≡ needs_of hs ++ h.need ∷ []
needs-push hs h = map-append (λ (x : HandIn). x.need) hs (h ∷ [])

line-packet : (h : HandIn) (t : Traffic) → line_of (with_packet h t) ≡ one_handed h.need (line_of t)
line-packet h t =
    let handed = needs-push t.handed h in
    let queue = needs-push t.queue h in
    rw (handed, queue) refl

needs-rest : (hs : List HandIn) → needs_of (drop 1 hs) ≡ drop 1 (needs_of hs)
needs-rest [] = refl
needs-rest (h ∷ hs) = refl

line-count : (count : ℕ) (t : Traffic) → line_of (with_count count t) ≡ one_carried count (line_of t)
line-count count t = let rest = needs-rest t.queue in rw rest refl

lines-handed : (p : ℕ) (h : HandIn) (ts : List Traffic) → map line_of (changed_at p (with_packet h) ts) ≡ lines_at p (one_handed h.need) (map line_of ts)
lines-handed p h [] = refl
lines-handed zero h (t ∷ ts) = ap (λ l. l ∷ map line_of ts) (line-packet h t)
lines-handed (suc p) h (t ∷ ts) = ap (λ ls. line_of t ∷ ls) (lines-handed p h ts)

lines-carried : (p count : ℕ) (ts : List Traffic) → map line_of (changed_at p (with_count count) ts) ≡ lines_at p (one_carried count) (map line_of ts)
lines-carried p count [] = refl
lines-carried zero count (t ∷ ts) = ap (λ l. l ∷ map line_of ts) (line-count count t)
lines-carried (suc p) count (t ∷ ts) = ap (λ ls. line_of t ∷ ls) (lines-carried p count ts)

waits-line : (t : Traffic) → line_waits (line_of t) ≡ waits t
waits-line t = ap (λ n. nat_lt 0 n) (length-map t.queue (λ (h : HandIn). h.need))

waits-lines : (p : ℕ) (ts : List Traffic) → line_waits_at p (map line_of ts) ≡ waits_at p ts
waits-lines p [] = refl
waits-lines zero (t ∷ ts) = waits-line t
waits-lines (suc p) (t ∷ ts) = waits-lines p ts

any-lines : (ts : List Traffic) → list_any line_waits (map line_of ts) ≡ list_any waits ts
any-lines [] = refl
any-lines (t ∷ ts) = let first = waits-line t in let others = any-lines ts in rw (first, others) refl

handed-lines : (ts : List Traffic) → map (λ (line : Line). line.handed) (map line_of ts) ≡ map (λ (t : Traffic). needs_of t.handed) ts
handed-lines [] = refl
handed-lines (t ∷ ts) = ap (λ ls. needs_of t.handed ∷ ls) (handed-lines ts)

counts-lines : (ts : List Traffic) → map (λ (line : Line). line.counts) (map line_of ts) ≡ map (λ (t : Traffic). t.counts) ts
counts-lines [] = refl
counts-lines (t ∷ ts) = ap (λ ls. t.counts ∷ ls) (counts-lines ts)

idle-lines : (n : ℕ) → map line_of (replicate n idle) ≡ replicate n no_line
idle-lines zero = refl
idle-lines (suc n) = ap (λ ls. no_line ∷ ls) (idle-lines n)

pub numbers-beginning : (processors : ℕ) → numbers_of (beginning processors) ≡ record { published = 0; lines = replicate processors no_line; plan = []; choices = [] }
numbers-beginning processors = let lines = idle-lines processors in rw lines refl

numbers-ended : (m : Moment) → numbers_of (phase_ended m) ≡ done step.Barrier (numbers_of m)
numbers-ended m =
    let lines = idle-lines (length m.processors) in
    let handed = handed-lines m.processors in
    let counts = counts-lines m.processors in
    let many = length-map m.processors line_of in
    rw (lines, handed, counts, many) refl

-- a step that the numbers allow can be made, whatever is published or handed in
go-on : (m : Moment) (move : Move) → Ready (step_of move) (numbers_of m) → (later : Moment) × Goes m move later × (numbers_of later ≡ done (step_of move) (numbers_of m))
go-on m (Publishes change) ready =
    let more : length (m.published ++ change ∷ []) ≡ length m.published + 1 = length-append m.published (change ∷ []) in
    (with_change change m, refl, rw more refl)
go-on m (HandsIn p packet) ready =
    let lines = lines-handed p (record { packet = packet; need = length m.published }) m.processors in
    let below : p < length m.processors = omega (arith, ready, length-map m.processors line_of) in
    (handed_in p packet m, (below, refl), rw lines refl)
go-on m (Carries p) ready =
    let lines = lines-carried p (length m.published) m.processors in
    (carried_by p m, (sym (waits-lines p m.processors) ∙ ready, refl), rw lines refl)
go-on m EndsPhase ready = (phase_ended m, (sym (any-lines m.processors) ∙ ready, refl), numbers-ended m)

pub runs-lead : (m : Moment) (moves : List Move) (y : Numbers) → Runs (map step_of moves) (numbers_of m) y → (later : Moment) × Leads m moves later × (numbers_of later ≡ y)
runs-lead m [] y runs = (m, refl, sym runs)
runs-lead m (move ∷ moves) y runs =
    let next = go-on m move runs.0 in
    let rest = runs-lead next.0 moves y (subst (λ x. Runs (map step_of moves) x y) (sym next.2) runs.1) in
    (rest.0, (next.0, next.1, rest.1), rest.2)
