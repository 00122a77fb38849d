-- The steps that are due, pushed one after another.
use Rattle.std.proofs.Common.{◌≡◌, ℕ, ◌+◌, ◌-◌, ◌<◌, ◌≤◌, zero, suc, true, false, nat_le, List, [], ◌∷◌, ◌++◌, length, replicate, take, drop, get_or, slice_get, slice_set, Some, append_assoc, refl, sym, ap, ◌∙◌, arith}
use Rattle.std.proofs.lemmas.Bool.{le-leb, lt-leb}
use Rattle.std.proofs.lemmas.List.{drop_more, get_or-append-add, length-map, length-take-le, map-append, map-set, set-append_right, take_more}
use Rattle.std.specs.Borrow.{Bor}
use Rattle.interleave_core.proofs.LastCounts.{drop-get, take-get}
use Rattle.interleave_core.specs.Schedule.{all_due, all_left, due, due_steps, left_of, phase_steps, plan_steps, rows, steps_after}
use Rattle.interleave_core.specs.declared.step.Step.{Step}
use Rattle.interleave_core.specs.declared.step.Step.TheVariants as step
use Rattle.xdp_state.specs.declared.plan.PlanPhase.{PlanPhase}

pub due-at : (n k x : ℕ) (numbers : List ℕ) → k < length numbers → x ≡ get_or numbers k 0 → x ≤ n → due n (drop k numbers) ≡ suc (due n (drop (k + 1) numbers))
due-at n k x numbers below is le =
    let rest : drop k numbers ≡ x ∷ drop (k + 1) numbers = drop_more numbers k 0 below ∙ ap (λ y. y ∷ drop (k + 1) numbers) (sym is) in
    let test : nat_le x n ≡ true = le-leb x n le in
    ap (due n) rest ∙ (rw test refl)

pub due-stops : (n k x : ℕ) (numbers : List ℕ) → k < length numbers → x ≡ get_or numbers k 0 → n < x → due n (drop k numbers) ≡ 0
due-stops n k x numbers below is above =
    let rest : drop k numbers ≡ x ∷ drop (k + 1) numbers = drop_more numbers k 0 below ∙ ap (λ y. y ∷ drop (k + 1) numbers) (sym is) in
    let test : nat_le x n ≡ false = lt-leb x n above in
    ap (due n) rest ∙ (rw test refl)

list-at : (k : ℕ) (lists : List (List ℕ)) → k < length lists → drop k lists ≡ get_or lists k [] ∷ drop (k + 1) lists
list-at k lists below = drop_more lists k [] below

pub due_steps-at : (of : ℕ → Step) (n k : ℕ) (lists : List (List ℕ)) (old steps first : List Step) → k < length lists → steps ≡ old ++ replicate (due n (get_or lists k [])) (of k) → old ++ due_steps of n k (drop k lists) ≡ first → steps ++ due_steps of n (k + 1) (drop (k + 1) lists) ≡ first
due_steps-at of n k lists old steps first below more is =
    ap (λ ss. ss ++ due_steps of n (k + 1) (drop (k + 1) lists)) more
    ∙ append_assoc old (replicate (due n (get_or lists k [])) (of k)) (due_steps of n (k + 1) (drop (k + 1) lists))
    ∙ ap (λ ls. old ++ due_steps of n k ls) (sym (list-at k lists below))
    ∙ is

-- the list at a place is as it was, before the walk comes there
pub left-at : (n k : ℕ) (lists now : List (List ℕ)) → k < length lists → now ≡ all_left n (take k lists) ++ drop k lists → get_or now k [] ≡ get_or lists k []
left-at n k lists now below is =
    let many : length (all_left n (take k lists)) + 0 ≡ k = omega (arith, length-map (take k lists) (left_of n), length-take-le k lists (omega arith)) in
    ap (λ ls. get_or ls k []) is
    ∙ ap (λ i. get_or (all_left n (take k lists) ++ drop k lists) i []) (sym many)
    ∙ get_or-append-add (all_left n (take k lists)) (drop k lists) 0 []
    ∙ ap (λ ls. get_or ls 0 []) (list-at k lists below)

pub left-set : (n k : ℕ) (lists now : List (List ℕ)) → k < length lists → now ≡ all_left n (take k lists) ++ drop k lists → slice_set now k (left_of n (get_or lists k [])) ≡ all_left n (take (k + 1) lists) ++ drop (k + 1) lists
left-set n k lists now below is =
    let many : length (all_left n (take k lists)) ≡ k = omega (arith, length-map (take k lists) (left_of n), length-take-le k lists (omega arith)) in
    let place : k ≤ k = omega arith in
    let start : k - k ≡ 0 = omega arith in
    ap (λ ls. slice_set ls k (left_of n (get_or lists k []))) is
    ∙ set-append_right (all_left n (take k lists)) (drop k lists) k k (left_of n (get_or lists k [])) many place
    ∙ ap (λ i. all_left n (take k lists) ++ slice_set (drop k lists) i (left_of n (get_or lists k []))) start
    ∙ ap (λ ls. all_left n (take k lists) ++ slice_set ls 0 (left_of n (get_or lists k []))) (list-at k lists below)
    ∙ sym (append_assoc (all_left n (take k lists)) (left_of n (get_or lists k []) ∷ []) (drop (k + 1) lists))
    ∙ ap (λ ls. ls ++ drop (k + 1) lists) (sym (map-append (left_of n) (take k lists) (get_or lists k [] ∷ [])))
    ∙ ap (λ ls. all_left n ls ++ drop (k + 1) lists) (sym (take_more lists k [] below))

pub plan_steps-next : (n phase : ℕ) (plan : List PlanPhase) (choices : List (List (List ℕ))) (p : PlanPhase) (c : List (List ℕ)) (old new all : List Step) → slice_get plan phase ≡ Some p → slice_get choices phase ≡ Some c → old ++ plan_steps n (drop phase plan) (drop phase choices) ≡ all → new ≡ old ++ phase_steps n p c → new ++ plan_steps p.published (drop (phase + 1) plan) (drop (phase + 1) choices) ≡ all
plan_steps-next n phase plan choices p c old new all asked count so_far more =
    ap (λ ss. ss ++ plan_steps p.published (drop (phase + 1) plan) (drop (phase + 1) choices)) more
    ∙ append_assoc old (phase_steps n p c) (plan_steps p.published (drop (phase + 1) plan) (drop (phase + 1) choices))
    ∙ ap (λ cs. old ++ plan_steps n (p ∷ drop (phase + 1) plan) cs) (sym (drop-get choices phase c count))
    ∙ ap (λ ps. old ++ plan_steps n ps (drop phase choices)) (sym (drop-get plan phase p asked))
    ∙ so_far

pub steps_after-next : (n last : ℕ) (needs counts needs' counts' : List (List ℕ)) (old new all : List Step) → n < last → old ++ steps_after n (last - n) needs counts ≡ all → new ≡ old ++ step.Publish ∷ all_due (n + 1) needs counts → needs' ≡ all_left (n + 1) needs → counts' ≡ all_left (n + 1) counts → new ++ steps_after (n + 1) (last - (n + 1)) needs' counts' ≡ all
steps_after-next n last needs counts needs' counts' old new all below so_far more left counted =
    let left_over : last - n ≡ suc (last - (n + 1)) = omega arith in
    ap (λ ss. ss ++ steps_after (n + 1) (last - (n + 1)) needs' counts') more
    ∙ append_assoc old (step.Publish ∷ all_due (n + 1) needs counts) (steps_after (n + 1) (last - (n + 1)) needs' counts')
    ∙ ap (λ ns. old ++ (step.Publish ∷ (all_due (n + 1) needs counts ++ steps_after (n + 1) (last - (n + 1)) ns counts'))) left
    ∙ ap (λ cs. old ++ (step.Publish ∷ (all_due (n + 1) needs counts ++ steps_after (n + 1) (last - (n + 1)) (all_left (n + 1) needs) cs))) counted
    ∙ ap (λ k. old ++ steps_after n k needs counts) (sym left_over)
    ∙ so_far

pub rows-next : (slices : List (Bor (List ℕ))) (slice : Bor (List ℕ)) (place : ℕ) (table : List (List ℕ)) (row : List ℕ) → rows slices ≡ take place table → slice_get table place ≡ Some row → slice.now ≡ row → rows (slices ++ slice ∷ []) ≡ take (place + 1) table
rows-next slices slice place table row so_far there is =
    map-append (λ (s : Bor (List ℕ)). s.now) slices (slice ∷ [])
    ∙ ap (λ xs. xs ++ slice.now ∷ []) so_far
    ∙ ap (λ x. take place table ++ x ∷ []) is
    ∙ sym (take-get table place row there)

rows-at : (slices : List (Bor (List ℕ))) (k : ℕ) (slice : Bor (List ℕ)) → k < length slices → slice ≡ get_or slices k slice → get_or (rows slices) k [] ≡ slice.now
rows-at [] k slice below is = absurd (omega arith)
rows-at (s ∷ slices) zero slice below is = ap (λ (x : Bor (List ℕ)). x.now) (sym is)
rows-at (s ∷ slices) (suc k) slice below is = rows-at slices k slice (omega arith) is

-- one processor further
pub record IsOneOn (of : ℕ → Step) (n k : ℕ) (lists left : List (List ℕ)) (steps all : List Step) : Type 0 where
  pub steps_are : steps ++ due_steps of n (k + 1) (drop (k + 1) lists) ≡ all
  pub left_are : left ≡ all_left n (take (k + 1) lists) ++ drop (k + 1) lists

pub one_on : (of : ℕ → Step) (n k : ℕ) (lists : List (List ℕ)) (slices : List (Bor (List ℕ))) (slice rest : Bor (List ℕ)) (old steps all : List Step) → k < length lists → k < length slices → old ++ due_steps of n k (drop k lists) ≡ all → rows slices ≡ all_left n (take k lists) ++ drop k lists → slice ≡ get_or slices k slice → rest.now ≡ drop (due n slice.now) slice.now → steps ≡ old ++ replicate (due n slice.now) (of k) → IsOneOn of n k lists (rows (slice_set slices k rest)) steps all
one_on of n k lists slices slice rest old steps all below under so_far left is rests more =
    let here : slice.now ≡ get_or lists k [] = sym (rows-at slices k slice under is) ∙ left-at n k lists (rows slices) below left in
    let more2 : steps ≡ old ++ replicate (due n (get_or lists k [])) (of k) = more ∙ ap (λ xs. old ++ replicate (due n xs) (of k)) here in
    let rests2 : rest.now ≡ left_of n (get_or lists k []) = rests ∙ ap (λ xs. left_of n xs) here in
    record {
      steps_are = due_steps-at of n k lists old steps all below more2 so_far;
      left_are = map-set (λ (s : Bor (List ℕ)). s.now) slices k rest ∙ ap (λ r. slice_set (rows slices) k r) rests2 ∙ left-set n k lists (rows slices) below left;
    }
