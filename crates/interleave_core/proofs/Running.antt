-- The steps of a schedule lead from number to number.
use Rattle.std.proofs.Common.{◌≡◌, ℕ, ◌+◌, ◌-◌, ◌<◌, ◌≤◌, zero, suc, false, List, [], ◌∷◌, ◌++◌, length, map, replicate, drop, append_assoc, append-nil, length-append, length-drop, refl, sym, ap, subst, ◌∙◌, arith}
use Rattle.std.specs.Prelude.{⊤}
use Rattle.std.specs.List.{list_any}
use Rattle.std.proofs.lemmas.Bool.{lt-ltb}
use Rattle.std.proofs.lemmas.List.{drop-append-le, length-replicate}
use Rattle.interleave_core.proofs.Due.{due-split, enough, legal-first, legal-later, needs-later, needs-of_legal}
use Rattle.interleave_core.proofs.Numbers.{Line, Numbers, Runs, line_waits, line_waits_at, lines_at, no_line, one_carried, one_handed, runs-append}
use Rattle.interleave_core.specs.Reached.{AllAreNeeds, AreNeeds, ArePhases}
use Rattle.interleave_core.specs.Schedule.{all_due, all_left, due, due_steps, left_of, phase_steps, plan_steps, steps_after}
use Rattle.interleave_core.specs.declared.step.Step.TheVariants as step
use Rattle.xdp_state.specs.Legal.{AreLegalAfter, AreLegalCounts, AreLegalFrom, first_last, lasts_of, other_lasts}
use Rattle.xdp_state.specs.declared.plan.PlanPhase.{PlanPhase}

abbrev pub Plan : Type 0
Plan = List PlanPhase

abbrev pub Choices : Type 0
Choices = List (List (List ℕ))

abbrev pub numbers : ℕ → List Line → Plan → Choices → Numbers
numbers n lines plan choices = record { published = n; lines = lines; plan = plan; choices = choices }

-- so many packets with one need, and so many carried with one count
abbrev hand : ℕ → ℕ → Line → Line
hand k need line = record { handed = line.handed ++ replicate k need; counts = line.counts; queue = line.queue ++ replicate k need }

abbrev carry : ℕ → ℕ → Line → Line
carry k count line = record { handed = line.handed; counts = line.counts ++ replicate k count; queue = drop k line.queue }

lines_at-middle : (f : Line → Line) (before : List Line) (line : Line) (after : List Line) → lines_at (length before) f (before ++ line ∷ after) ≡ before ++ f line ∷ after
lines_at-middle f [] line after = refl
lines_at-middle f (b ∷ before) line after = ap (λ ls. b ∷ ls) (lines_at-middle f before line after)

waits_at-middle : (before : List Line) (line : Line) (after : List Line) → line_waits_at (length before) (before ++ line ∷ after) ≡ line_waits line
waits_at-middle [] line after = refl
waits_at-middle (b ∷ before) line after = waits_at-middle before line after

hand-none : (n : ℕ) (line : Line) → hand 0 n line ≡ line
hand-none n line = let handed = append-nil line.handed in let queue = append-nil line.queue in rw (handed, queue) refl

hand-next : (k n : ℕ) (line : Line) → hand k n (one_handed n line) ≡ hand (suc k) n line
hand-next k n line =
    let handed = append_assoc line.handed (n ∷ []) (replicate k n) in
    let queue = append_assoc line.queue (n ∷ []) (replicate k n) in
    rw (handed, queue) refl

carry-none : (n : ℕ) (line : Line) → carry 0 n line ≡ line
carry-none n line = let counts = append-nil line.counts in rw counts refl

drop-one : (k : ℕ) (xs : List ℕ) → drop k (drop 1 xs) ≡ drop (suc k) xs
drop-one zero [] = refl
drop-one (suc k) [] = refl
drop-one k (x ∷ xs) = refl

carry-next : (k n : ℕ) (line : Line) → carry k n (one_carried n line) ≡ carry (suc k) n line
carry-next k n line =
    let counts = append_assoc line.counts (n ∷ []) (replicate k n) in
    let queue = drop-one k line.queue in
    rw (counts, queue) refl

run-hand : (k n : ℕ) (before : List Line) (line : Line) (after : List Line) (plan : Plan) (choices : Choices) → Runs (replicate k (step.HandIn (length before))) (numbers n (before ++ line ∷ after) plan choices) (numbers n (before ++ hand k n line ∷ after) plan choices)
run-hand zero n before line after plan choices = ap (λ l. numbers n (before ++ l ∷ after) plan choices) (hand-none n line)
run-hand (suc k) n before line after plan choices =
    let below : length before < length (before ++ line ∷ after) = omega (arith, length-append before (line ∷ after)) in
    let rest : Runs (replicate k (step.HandIn (length before))) (numbers n (before ++ one_handed n line ∷ after) plan choices) (numbers n (before ++ hand (suc k) n line ∷ after) plan choices) =
    subst (λ l. Runs (replicate k (step.HandIn (length before))) (numbers n (before ++ one_handed n line ∷ after) plan choices) (numbers n (before ++ l ∷ after) plan choices)) (hand-next k n line) (run-hand k n before (one_handed n line) after plan choices) in
    (below, subst (λ ls. Runs (replicate k (step.HandIn (length before))) (numbers n ls plan choices) (numbers n (before ++ hand (suc k) n line ∷ after) plan choices)) (sym (lines_at-middle (one_handed n) before line after)) rest)

run-carry : (k n : ℕ) (before : List Line) (line : Line) (after : List Line) (plan : Plan) (choices : Choices) → k ≤ length line.queue → Runs (replicate k (step.Carry (length before))) (numbers n (before ++ line ∷ after) plan choices) (numbers n (before ++ carry k n line ∷ after) plan choices)
run-carry zero n before line after plan choices le = ap (λ l. numbers n (before ++ l ∷ after) plan choices) (carry-none n line)
run-carry (suc k) n before line after plan choices le =
    let some : 0 < length line.queue = omega arith in
    let left : k ≤ length (drop 1 line.queue) = omega (arith, length-drop 1 line.queue) in
    let rest : Runs (replicate k (step.Carry (length before))) (numbers n (before ++ one_carried n line ∷ after) plan choices) (numbers n (before ++ carry (suc k) n line ∷ after) plan choices) =
    subst (λ l. Runs (replicate k (step.Carry (length before))) (numbers n (before ++ one_carried n line ∷ after) plan choices) (numbers n (before ++ l ∷ after) plan choices)) (carry-next k n line) (run-carry k n before (one_carried n line) after plan choices left) in
    (waits_at-middle before line after ∙ lt-ltb 0 (length line.queue) some, subst (λ ls. Runs (replicate k (step.Carry (length before))) (numbers n ls plan choices) (numbers n (before ++ carry (suc k) n line ∷ after) plan choices)) (sym (lines_at-middle (one_carried n) before line after)) rest)

-- What is left of a processor's needs and counts fits what waits for it.
record Stands (n last : ℕ) (line : Line) (needs counts : List ℕ) : Type 0 where
  legal : AreLegalCounts n last (line.queue ++ needs) counts
  ascends : AreNeeds n last needs

abbrev AllStand : ℕ → ℕ → List Line → List (List ℕ) → List (List ℕ) → Type 0
AllStand n last [] [] [] = ⊤
AllStand n last (line ∷ lines) (needs ∷ more) (counts ∷ others) = Stands n last line needs counts × AllStand n last lines more others
AllStand n last _ _ _ = ⊥

abbrev hand_all : ℕ → List Line → List (List ℕ) → List Line
hand_all n (line ∷ lines) (needs ∷ more) = hand (due n needs) n line ∷ hand_all n lines more
hand_all n lines _ = lines

abbrev carry_all : ℕ → List Line → List (List ℕ) → List Line
carry_all n (line ∷ lines) (counts ∷ more) = carry (due n counts) n line ∷ carry_all n lines more
carry_all n lines _ = lines

abbrev AreEnough : ℕ → List Line → List (List ℕ) → Type 0
AreEnough n [] [] = ⊤
AreEnough n (line ∷ lines) (counts ∷ more) = (due n counts ≤ length line.queue) × AreEnough n lines more
AreEnough n _ _ = ⊥

run-hand_all : (n last : ℕ) (before lines : List Line) (needs counts : List (List ℕ)) (plan : Plan) (choices : Choices) → AllStand n last lines needs counts → Runs (due_steps (λ p. step.HandIn p) n (length before) needs) (numbers n (before ++ lines) plan choices) (numbers n (before ++ hand_all n lines needs) plan choices)
run-hand_all n last before [] [] [] plan choices all = refl
run-hand_all n last before (line ∷ lines) (ns ∷ needs) (cs ∷ counts) plan choices all =
    let next : Line = hand (due n ns) n line in
    let many : length (before ++ next ∷ []) ≡ length before + 1 = length-append before (next ∷ []) in
    let from : (before ++ next ∷ []) ++ lines ≡ before ++ next ∷ lines = append_assoc before (next ∷ []) lines in
    let to : (before ++ next ∷ []) ++ hand_all n lines needs ≡ before ++ next ∷ hand_all n lines needs = append_assoc before (next ∷ []) (hand_all n lines needs) in
    let rest = run-hand_all n last (before ++ next ∷ []) lines needs counts plan choices all.1 in
    let rest2 = subst (λ k. Runs (due_steps (λ p. step.HandIn p) n k needs) (numbers n ((before ++ next ∷ []) ++ lines) plan choices) (numbers n ((before ++ next ∷ []) ++ hand_all n lines needs) plan choices)) many rest in
    let rest3 = subst (λ ls. Runs (due_steps (λ p. step.HandIn p) n (length before + 1) needs) (numbers n ls plan choices) (numbers n ((before ++ next ∷ []) ++ hand_all n lines needs) plan choices)) from rest2 in
    let rest4 = subst (λ ls. Runs (due_steps (λ p. step.HandIn p) n (length before + 1) needs) (numbers n (before ++ next ∷ lines) plan choices) (numbers n ls plan choices)) to rest3 in
    runs-append (replicate (due n ns) (step.HandIn (length before))) (due_steps (λ p. step.HandIn p) n (length before + 1) needs) (numbers n (before ++ line ∷ lines) plan choices) (numbers n (before ++ next ∷ lines) plan choices) (numbers n (before ++ next ∷ hand_all n lines needs) plan choices) (run-hand (due n ns) n before line lines plan choices) rest4
run-hand_all n last before lines needs counts plan choices all = absurd all

run-carry_all : (n : ℕ) (before lines : List Line) (counts : List (List ℕ)) (plan : Plan) (choices : Choices) → AreEnough n lines counts → Runs (due_steps (λ p. step.Carry p) n (length before) counts) (numbers n (before ++ lines) plan choices) (numbers n (before ++ carry_all n lines counts) plan choices)
run-carry_all n before [] [] plan choices all = refl
run-carry_all n before (line ∷ lines) (cs ∷ counts) plan choices all =
    let next : Line = carry (due n cs) n line in
    let many : length (before ++ next ∷ []) ≡ length before + 1 = length-append before (next ∷ []) in
    let from : (before ++ next ∷ []) ++ lines ≡ before ++ next ∷ lines = append_assoc before (next ∷ []) lines in
    let to : (before ++ next ∷ []) ++ carry_all n lines counts ≡ before ++ next ∷ carry_all n lines counts = append_assoc before (next ∷ []) (carry_all n lines counts) in
    let rest = run-carry_all n (before ++ next ∷ []) lines counts plan choices all.1 in
    let rest2 = subst (λ k. Runs (due_steps (λ p. step.Carry p) n k counts) (numbers n ((before ++ next ∷ []) ++ lines) plan choices) (numbers n ((before ++ next ∷ []) ++ carry_all n lines counts) plan choices)) many rest in
    let rest3 = subst (λ ls. Runs (due_steps (λ p. step.Carry p) n (length before + 1) counts) (numbers n ls plan choices) (numbers n ((before ++ next ∷ []) ++ carry_all n lines counts) plan choices)) from rest2 in
    let rest4 = subst (λ ls. Runs (due_steps (λ p. step.Carry p) n (length before + 1) counts) (numbers n (before ++ next ∷ lines) plan choices) (numbers n ls plan choices)) to rest3 in
    runs-append (replicate (due n cs) (step.Carry (length before))) (due_steps (λ p. step.Carry p) n (length before + 1) counts) (numbers n (before ++ line ∷ lines) plan choices) (numbers n (before ++ next ∷ lines) plan choices) (numbers n (before ++ next ∷ carry_all n lines counts) plan choices) (run-carry (due n cs) n before line lines plan choices all.0) rest4
run-carry_all n before lines counts plan choices all = absurd all

all-enough : (n last : ℕ) (lines : List Line) (needs counts : List (List ℕ)) → AllStand n last lines needs counts → AreEnough n (hand_all n lines needs) counts
all-enough n last [] [] [] all = tt
all-enough n last (line ∷ lines) (ns ∷ needs) (cs ∷ counts) all =
    let le : due n cs ≤ length (line.queue ++ replicate (due n ns) n) = omega (arith, enough n last line.queue ns cs all.0.legal all.0.ascends, length-append line.queue (replicate (due n ns) n), length-replicate (due n ns) n) in
    (le, all-enough n last lines needs counts all.1)
all-enough n last lines needs counts all = absurd all

-- the lines when all that is due with so many publications is done
abbrev next_lines : ℕ → List Line → List (List ℕ) → List (List ℕ) → List Line
next_lines n lines needs counts = carry_all n (hand_all n lines needs) counts

run-due : (n last : ℕ) (lines : List Line) (needs counts : List (List ℕ)) (plan : Plan) (choices : Choices) → AllStand n last lines needs counts → Runs (all_due n needs counts) (numbers n lines plan choices) (numbers n (next_lines n lines needs counts) plan choices)
run-due n last lines needs counts plan choices all =
    runs-append (due_steps (λ p. step.HandIn p) n 0 needs) (due_steps (λ p. step.Carry p) n 0 counts) (numbers n lines plan choices) (numbers n (hand_all n lines needs) plan choices) (numbers n (next_lines n lines needs counts) plan choices)
    (run-hand_all n last [] lines needs counts plan choices all)
    (run-carry_all n [] (hand_all n lines needs) counts plan choices (all-enough n last lines needs counts all))

stands-later : (n last : ℕ) (line : Line) (ns cs : List ℕ) → Stands n last line ns cs → Stands (n + 1) last (carry (due n cs) n (hand (due n ns) n line)) (left_of n ns) (left_of n cs)
stands-later n last line ns cs stands =
    let le : due n cs ≤ length (line.queue ++ replicate (due n ns) n) = omega (arith, enough n last line.queue ns cs stands.legal stands.ascends, length-append line.queue (replicate (due n ns) n), length-replicate (due n ns) n) in
    let split : line.queue ++ ns ≡ (line.queue ++ replicate (due n ns) n) ++ left_of n ns =
    ap (λ xs. line.queue ++ xs) (due-split n last ns stands.ascends) ∙ sym (append_assoc line.queue (replicate (due n ns) n) (left_of n ns)) in
    let waiting : drop (due n cs) (line.queue ++ ns) ≡ drop (due n cs) (line.queue ++ replicate (due n ns) n) ++ left_of n ns =
    ap (drop (due n cs)) split ∙ drop-append-le (due n cs) (line.queue ++ replicate (due n ns) n) (left_of n ns) le in
    record {
      legal = subst (λ zs. AreLegalCounts (n + 1) last zs (left_of n cs)) waiting (legal-later n last (line.queue ++ ns) cs stands.legal);
      ascends = needs-later n last ns stands.ascends;
    }

all-later : (n last : ℕ) (lines : List Line) (needs counts : List (List ℕ)) → AllStand n last lines needs counts → AllStand (n + 1) last (next_lines n lines needs counts) (all_left n needs) (all_left n counts)
all-later n last [] [] [] all = tt
all-later n last (line ∷ lines) (ns ∷ needs) (cs ∷ counts) all = (stands-later n last line ns cs all.0, all-later n last lines needs counts all.1)
all-later n last lines needs counts all = absurd all

-- a line when all that is left is handed in and carried
abbrev finished : Line → List ℕ → List ℕ → Line
finished line needs counts = record { handed = line.handed ++ needs; counts = line.counts ++ counts; queue = [] }

abbrev finish_all : List Line → List (List ℕ) → List (List ℕ) → List Line
finish_all (line ∷ lines) (needs ∷ more) (counts ∷ others) = finished line needs counts ∷ finish_all lines more others
finish_all _ _ _ = []

rejoined : (n last : ℕ) (done xs : List ℕ) → AreNeeds n last xs → (done ++ replicate (due n xs) n) ++ left_of n xs ≡ done ++ xs
rejoined n last done xs ascends = append_assoc done (replicate (due n xs) n) (left_of n xs) ∙ ap (λ ys. done ++ ys) (sym (due-split n last xs ascends))

finished-later : (n last : ℕ) (line : Line) (ns cs : List ℕ) → Stands n last line ns cs → finished (carry (due n cs) n (hand (due n ns) n line)) (left_of n ns) (left_of n cs) ≡ finished line ns cs
finished-later n last line ns cs stands =
    let handed = rejoined n last line.handed ns stands.ascends in
    let counts = rejoined n last line.counts cs (needs-of_legal n last (line.queue ++ ns) cs stands.legal) in
    ap (λ hs. record { handed = hs; counts = (line.counts ++ replicate (due n cs) n) ++ left_of n cs; queue = [] }) handed
    ∙ ap (λ ks. record { handed = line.handed ++ ns; counts = ks; queue = [] }) counts

finish-later : (n last : ℕ) (lines : List Line) (needs counts : List (List ℕ)) → AllStand n last lines needs counts → finish_all (next_lines n lines needs counts) (all_left n needs) (all_left n counts) ≡ finish_all lines needs counts
finish-later n last [] [] [] all = refl
finish-later n last (line ∷ lines) (ns ∷ needs) (cs ∷ counts) all =
    ap (λ l. l ∷ finish_all (next_lines n lines needs counts) (all_left n needs) (all_left n counts)) (finished-later n last line ns cs all.0)
    ∙ ap (λ ls. finished line ns cs ∷ ls) (finish-later n last lines needs counts all.1)
finish-later n last lines needs counts all = absurd all

-- past the last number nothing is left
ended-line : (n last : ℕ) (handed done queue needs counts : List ℕ) → last < n → AreLegalCounts n last (queue ++ needs) counts → AreNeeds n last needs → record { handed = handed; counts = done; queue = queue } ≡ finished (record { handed = handed; counts = done; queue = queue }) needs counts
ended-line n last handed done queue (m ∷ ms) counts past legal ascends = absurd (omega (arith, ascends.0, ascends.1))
ended-line n last handed done [] [] [] past legal ascends =
    let all = append-nil handed in
    let counted = append-nil done in
    ap (λ hs. record { handed = hs; counts = done; queue = [] }) (sym all) ∙ ap (λ ks. record { handed = handed ++ []; counts = ks; queue = [] }) (sym counted)
ended-line n last handed done [] [] (c ∷ counts) past legal ascends = absurd legal
ended-line n last handed done (q ∷ queue) [] [] past legal ascends = absurd legal
ended-line n last handed done (q ∷ queue) [] (c ∷ counts) past legal ascends = absurd (omega (arith, legal.0, legal.2))

all-ended : (n last : ℕ) (lines : List Line) (needs counts : List (List ℕ)) → last < n → AllStand n last lines needs counts → lines ≡ finish_all lines needs counts
all-ended n last [] [] [] past all = refl
all-ended n last (line ∷ lines) (ns ∷ needs) (cs ∷ counts) past all =
    ap (λ l. l ∷ lines) (ended-line n last line.handed line.counts line.queue ns cs past all.0.legal all.0.ascends)
    ∙ ap (λ ls. finished line ns cs ∷ ls) (all-ended n last lines needs counts past all.1)
all-ended n last lines needs counts past all = absurd all

run-after : (k n last : ℕ) (lines : List Line) (needs counts : List (List ℕ)) (plan : Plan) (choices : Choices) → n + k ≡ last → AllStand (n + 1) last lines needs counts → Runs (steps_after n k needs counts) (numbers n lines plan choices) (numbers last (finish_all lines needs counts) plan choices)
run-after zero n last lines needs counts plan choices is all =
    let same : last ≡ n = omega arith in
    let past : last < n + 1 = omega arith in
    ap (λ m. numbers m (finish_all lines needs counts) plan choices) same ∙ ap (λ ls. numbers n ls plan choices) (sym (all-ended (n + 1) last lines needs counts past all))
run-after (suc k) n last lines needs counts plan choices is all =
    let rest = run-after k (n + 1) last (next_lines (n + 1) lines needs counts) (all_left (n + 1) needs) (all_left (n + 1) counts) plan choices (omega arith) (all-later (n + 1) last lines needs counts all) in
    let rest2 = subst (λ ls. Runs (steps_after (n + 1) k (all_left (n + 1) needs) (all_left (n + 1) counts)) (numbers (n + 1) (next_lines (n + 1) lines needs counts) plan choices) (numbers last ls plan choices)) (finish-later (n + 1) last lines needs counts all) rest in
    (tt, runs-append (all_due (n + 1) needs counts) (steps_after (n + 1) k (all_left (n + 1) needs) (all_left (n + 1) counts)) (numbers (n + 1) lines plan choices) (numbers (n + 1) (next_lines (n + 1) lines needs counts) plan choices) (numbers last (finish_all lines needs counts) plan choices) (run-due (n + 1) last lines needs counts plan choices all) rest2)

stand-first : (processors first last : ℕ) (lasts : List ℕ) (needs counts : List (List ℕ)) → length needs ≡ processors → AllAreNeeds first last needs → AreLegalFrom lasts last needs counts → AllStand first last (replicate processors no_line) needs counts
stand-first zero first last lasts [] [] many ascend legal = tt
stand-first zero first last lasts [] (cs ∷ counts) many ascend legal = absurd legal
stand-first zero first last lasts (ns ∷ needs) counts many ascend legal = absurd (omega arith)
stand-first (suc processors) first last lasts [] counts many ascend legal = absurd (omega arith)
stand-first (suc processors) first last lasts (ns ∷ needs) [] many ascend legal = absurd legal
stand-first (suc processors) first last lasts (ns ∷ needs) (cs ∷ counts) many ascend legal = (
  record { legal = legal-first first last (first_last lasts) ns cs ascend.0 legal.0; ascends = ascend.0 },
  stand-first processors first last (other_lasts lasts) needs counts (omega arith) ascend.1 legal.1,
)

none-wait : (n last : ℕ) (lines : List Line) (needs counts : List (List ℕ)) → AllStand n last lines needs counts → list_any line_waits (finish_all lines needs counts) ≡ false
none-wait n last [] [] [] all = refl
none-wait n last (line ∷ lines) (ns ∷ needs) (cs ∷ counts) all = none-wait n last lines needs counts all.1
none-wait n last lines needs counts all = absurd all

finished-needs : (n last processors : ℕ) (needs counts : List (List ℕ)) → AllStand n last (replicate processors no_line) needs counts → map (λ (line : Line). line.handed) (finish_all (replicate processors no_line) needs counts) ≡ needs
finished-needs n last zero [] [] all = refl
finished-needs n last zero [] (cs ∷ counts) all = absurd all
finished-needs n last zero (ns ∷ needs) counts all = absurd all
finished-needs n last (suc processors) [] counts all = absurd all
finished-needs n last (suc processors) (ns ∷ needs) [] all = absurd all
finished-needs n last (suc processors) (ns ∷ needs) (cs ∷ counts) all = ap (λ xs. ns ∷ xs) (finished-needs n last processors needs counts all.1)

finished-counts : (n last processors : ℕ) (needs counts : List (List ℕ)) → AllStand n last (replicate processors no_line) needs counts → map (λ (line : Line). line.counts) (finish_all (replicate processors no_line) needs counts) ≡ counts
finished-counts n last zero [] [] all = refl
finished-counts n last zero [] (cs ∷ counts) all = absurd all
finished-counts n last zero (ns ∷ needs) counts all = absurd all
finished-counts n last (suc processors) [] counts all = absurd all
finished-counts n last (suc processors) (ns ∷ needs) [] all = absurd all
finished-counts n last (suc processors) (ns ∷ needs) (cs ∷ counts) all = ap (λ xs. cs ∷ xs) (finished-counts n last processors needs counts all.1)

finished-many : (n last processors : ℕ) (needs counts : List (List ℕ)) → AllStand n last (replicate processors no_line) needs counts → length (finish_all (replicate processors no_line) needs counts) ≡ processors
finished-many n last zero [] [] all = refl
finished-many n last zero [] (cs ∷ counts) all = absurd all
finished-many n last zero (ns ∷ needs) counts all = absurd all
finished-many n last (suc processors) [] counts all = absurd all
finished-many n last (suc processors) (ns ∷ needs) [] all = absurd all
finished-many n last (suc processors) (ns ∷ needs) (cs ∷ counts) all = ap suc (finished-many n last processors needs counts all.1)

run-barrier : (first processors : ℕ) (asked : PlanPhase) (counts : List (List ℕ)) (plan : Plan) (choices : Choices) → AllStand first asked.published (replicate processors no_line) asked.needs counts → Runs (step.Barrier ∷ []) (numbers asked.published (finish_all (replicate processors no_line) asked.needs counts) plan choices) (numbers asked.published (replicate processors no_line) (plan ++ asked ∷ []) (choices ++ counts ∷ []))
run-barrier first processors asked counts plan choices all =
    let many = finished-many first asked.published processors asked.needs counts all in
    let needs = finished-needs first asked.published processors asked.needs counts all in
    let counted = finished-counts first asked.published processors asked.needs counts all in
    (none-wait first asked.published (replicate processors no_line) asked.needs counts all, rw (many, needs, counted) refl)

run-phase : (processors first : ℕ) (lasts : List ℕ) (asked : PlanPhase) (counts : List (List ℕ)) (plan : Plan) (choices : Choices) → length asked.needs ≡ processors → first ≤ asked.published → AllAreNeeds first asked.published asked.needs → AreLegalFrom lasts asked.published asked.needs counts → Runs (phase_steps first asked counts) (numbers first (replicate processors no_line) plan choices) (numbers asked.published (replicate processors no_line) (plan ++ asked ∷ []) (choices ++ counts ∷ []))
run-phase processors first lasts asked counts plan choices many low ascend legal =
    let all = stand-first processors first asked.published lasts asked.needs counts many ascend legal in
    let after = run-after (asked.published - first) first asked.published (next_lines first (replicate processors no_line) asked.needs counts) (all_left first asked.needs) (all_left first counts) plan choices (omega arith) (all-later first asked.published (replicate processors no_line) asked.needs counts all) in
    let after2 = subst (λ ls. Runs (steps_after first (asked.published - first) (all_left first asked.needs) (all_left first counts)) (numbers first (next_lines first (replicate processors no_line) asked.needs counts) plan choices) (numbers asked.published ls plan choices)) (finish-later first asked.published (replicate processors no_line) asked.needs counts all) after in
    runs-append (all_due first asked.needs counts) (steps_after first (asked.published - first) (all_left first asked.needs) (all_left first counts) ++ step.Barrier ∷ []) (numbers first (replicate processors no_line) plan choices) (numbers first (next_lines first (replicate processors no_line) asked.needs counts) plan choices) (numbers asked.published (replicate processors no_line) (plan ++ asked ∷ []) (choices ++ counts ∷ []))
    (run-due first asked.published (replicate processors no_line) asked.needs counts plan choices all)
    (runs-append (steps_after first (asked.published - first) (all_left first asked.needs) (all_left first counts)) (step.Barrier ∷ []) (numbers first (next_lines first (replicate processors no_line) asked.needs counts) plan choices) (numbers asked.published (finish_all (replicate processors no_line) asked.needs counts) plan choices) (numbers asked.published (replicate processors no_line) (plan ++ asked ∷ []) (choices ++ counts ∷ []))
    after2 (run-barrier first processors asked counts plan choices all))

pub run-plan : (processors first : ℕ) (lasts : List ℕ) (asked : Plan) (counts : Choices) (plan : Plan) (choices : Choices) → ArePhases processors first asked → length counts ≡ length asked → AreLegalAfter lasts asked counts → (last : ℕ) × Runs (plan_steps first asked counts) (numbers first (replicate processors no_line) plan choices) (numbers last (replicate processors no_line) (plan ++ asked) (choices ++ counts))
run-plan processors first lasts [] [] plan choices phases whole legal =
    (first, ap (λ p. numbers first (replicate processors no_line) p (choices ++ [])) (append-nil plan) ∙ ap (λ c. numbers first (replicate processors no_line) plan c) (append-nil choices))
run-plan processors first lasts [] (c ∷ counts) plan choices phases whole legal = absurd legal
run-plan processors first lasts (p ∷ asked) [] plan choices phases whole legal = absurd (omega arith)
run-plan processors first lasts (p ∷ asked) (c ∷ counts) plan choices phases whole legal =
    let one = run-phase processors first lasts p c plan choices phases.0 phases.1 phases.2 legal.0 in
    let rest = run-plan processors p.published (lasts_of lasts c) asked counts (plan ++ p ∷ []) (choices ++ c ∷ []) phases.3 (omega arith) legal.1 in
    let planned = append_assoc plan (p ∷ []) asked in
    let chosen = append_assoc choices (c ∷ []) counts in
    let rest2 = subst (λ ps. Runs (plan_steps p.published asked counts) (numbers p.published (replicate processors no_line) (plan ++ p ∷ []) (choices ++ c ∷ [])) (numbers rest.0 (replicate processors no_line) ps ((choices ++ c ∷ []) ++ counts))) planned rest.1 in
    let rest3 = subst (λ cs. Runs (plan_steps p.published asked counts) (numbers p.published (replicate processors no_line) (plan ++ p ∷ []) (choices ++ c ∷ [])) (numbers rest.0 (replicate processors no_line) (plan ++ p ∷ asked) cs)) chosen rest2 in
    (rest.0, runs-append (phase_steps first p c) (plan_steps p.published asked counts) (numbers first (replicate processors no_line) plan choices) (numbers p.published (replicate processors no_line) (plan ++ p ∷ []) (choices ++ c ∷ [])) (numbers rest.0 (replicate processors no_line) (plan ++ p ∷ asked) (choices ++ c ∷ counts)) one rest3)
