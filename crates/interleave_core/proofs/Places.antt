-- The first illegal packet, as a walk over places comes to it.
use Rattle.std.proofs.Common.{◌≡◌, ℕ, ◌+◌, ◌<◌, ◌≤◌, min, true, false, cond, ◌==◌, List, [], ◌∷◌, length, take, drop, get_or, slice_get, Option, Some, None, refl, sym, ap, ◌∙◌, arith, inl, inr}
use Rattle.std.specs.Option.{option_or}
use Rattle.std.proofs.lemmas.Bool.{cases_order, eq-eqb, ne_eqb}
use Rattle.std.proofs.lemmas.List.{drop_all, drop_more}
use Rattle.interleave_core.proofs.LastCounts.{drop-get, first_last-drop, last_counts-next, other_lasts-drop}
use Rattle.interleave_core.specs.Legality.{breaks, illegal_from, illegal_in, illegal_on, illegal_packet, lacking_from, lacking_in, lacking_packet}
use Rattle.interleave_core.specs.Sound.{last_counts}
use Rattle.interleave_core.specs.declared.illegal.Illegal.{Illegal}
use Rattle.interleave_core.specs.declared.illegal.LegalRule.TheVariants.{Shape}
use Rattle.xdp_state.specs.Legal.{other_lasts}
use Rattle.xdp_state.specs.declared.plan.PlanPhase.{PlanPhase}

pub lacking_in-at : (phase p : ℕ) (needs counts : List (List ℕ)) (n c : List ℕ) → slice_get needs p ≡ Some n → slice_get counts p ≡ Some c → lacking_in phase p (drop p needs) (drop p counts) ≡ option_or (lacking_packet phase p n c) (lacking_in phase (p + 1) (drop (p + 1) needs) (drop (p + 1) counts))
lacking_in-at phase p needs counts n c need count =
    ap (λ ns. lacking_in phase p ns (drop p counts)) (drop-get needs p n need) ∙ ap (λ cs. lacking_in phase p (n ∷ drop (p + 1) needs) cs) (drop-get counts p c count)

pub lacking_from-at : (phase : ℕ) (plan : List PlanPhase) (choices : List (List (List ℕ))) (p : PlanPhase) (c : List (List ℕ)) → slice_get plan phase ≡ Some p → slice_get choices phase ≡ Some c → lacking_from phase (drop phase plan) (drop phase choices) ≡ option_or (lacking_in phase 0 p.needs c) (lacking_from (phase + 1) (drop (phase + 1) plan) (drop (phase + 1) choices))
lacking_from-at phase plan choices p c asked count =
    ap (λ ps. lacking_from phase ps (drop phase choices)) (drop-get plan phase p asked) ∙ ap (λ cs. lacking_from phase (p ∷ drop (phase + 1) plan) cs) (drop-get choices phase c count)

pub illegal_on-at : (phase p k last published : ℕ) (needs counts : List ℕ) (n c : ℕ) → k < length needs → k < length counts → n ≡ get_or needs k 0 → c ≡ get_or counts k 0 → illegal_on phase p k last published (drop k needs) (drop k counts) ≡ option_or (illegal_packet phase p k last published n c) (illegal_on phase p (k + 1) c published (drop (k + 1) needs) (drop (k + 1) counts))
illegal_on-at phase p k last published needs counts n c below under need count =
    let ns : drop k needs ≡ n ∷ drop (k + 1) needs = drop_more needs k 0 below ∙ ap (λ x. x ∷ drop (k + 1) needs) (sym need) in
    let cs : drop k counts ≡ c ∷ drop (k + 1) counts = drop_more counts k 0 under ∙ ap (λ x. x ∷ drop (k + 1) counts) (sym count) in
    ap (λ xs. illegal_on phase p k last published xs (drop k counts)) ns ∙ ap (λ xs. illegal_on phase p k last published (n ∷ drop (k + 1) needs) xs) cs

pub illegal_in-at : (phase p published : ℕ) (lasts : List ℕ) (needs counts : List (List ℕ)) (n c : List ℕ) → slice_get needs p ≡ Some n → slice_get counts p ≡ Some c → illegal_in phase p (drop p lasts) published (drop p needs) (drop p counts) ≡ option_or (illegal_on phase p 0 (get_or lasts p 0) published n c) (illegal_in phase (p + 1) (drop (p + 1) lasts) published (drop (p + 1) needs) (drop (p + 1) counts))
illegal_in-at phase p published lasts needs counts n c need count =
    ap (λ ns. illegal_in phase p (drop p lasts) published ns (drop p counts)) (drop-get needs p n need)
    ∙ ap (λ cs. illegal_in phase p (drop p lasts) published (n ∷ drop (p + 1) needs) cs) (drop-get counts p c count)
    ∙ ap (λ last. option_or (illegal_on phase p 0 last published n c) (illegal_in phase (p + 1) (other_lasts (drop p lasts)) published (drop (p + 1) needs) (drop (p + 1) counts))) (first_last-drop lasts p)
    ∙ ap (λ ls. option_or (illegal_on phase p 0 (get_or lasts p 0) published n c) (illegal_in phase (p + 1) ls published (drop (p + 1) needs) (drop (p + 1) counts))) (other_lasts-drop lasts p)

pub illegal_from-at : (phase : ℕ) (plan : List PlanPhase) (choices : List (List (List ℕ))) (p : PlanPhase) (c : List (List ℕ)) → slice_get plan phase ≡ Some p → slice_get choices phase ≡ Some c → illegal_from phase (last_counts (take phase choices)) (drop phase plan) (drop phase choices) ≡ option_or (illegal_in phase 0 (last_counts (take phase choices)) p.published p.needs c) (illegal_from (phase + 1) (last_counts (take (phase + 1) choices)) (drop (phase + 1) plan) (drop (phase + 1) choices))
illegal_from-at phase plan choices p c asked count =
    ap (λ ps. illegal_from phase (last_counts (take phase choices)) ps (drop phase choices)) (drop-get plan phase p asked)
    ∙ ap (λ cs. illegal_from phase (last_counts (take phase choices)) (p ∷ drop (phase + 1) plan) cs) (drop-get choices phase c count)
    ∙ ap (λ ls. option_or (illegal_in phase 0 (last_counts (take phase choices)) p.published p.needs c) (illegal_from (phase + 1) ls (drop (phase + 1) plan) (drop (phase + 1) choices))) (sym (last_counts-next choices phase c count))

-- the walk ends here with an answer, or goes on
pub found-at : (first here a b : Option Illegal) (x : Illegal) → first ≡ here → here ≡ option_or a b → Some x ≡ a → Some x ≡ first
found-at first here a b x so_far at_place found = ap (λ o. option_or o b) found ∙ sym at_place ∙ sym so_far

pub next-at : (first here a b r : Option Illegal) → first ≡ here → here ≡ option_or a b → ((x : Illegal) → r ≡ Some x → ⊥) → r ≡ a → first ≡ b
next-at first here a b None so_far at_place other found = so_far ∙ at_place ∙ ap (λ o. option_or o b) (sym found)
next-at first here a b (Some x) so_far at_place other found = absurd (other x refl)

-- behind the last place that both have
pub lacking_in-end : (phase p : ℕ) (needs counts : List (List ℕ)) → p ≡ min (length needs) (length counts) → lacking_in phase p (drop p needs) (drop p counts) ≡ cond (length needs == length counts) None (breaks Shape phase p 0)
lacking_in-end phase p needs counts is =
    elim (cases_order (length needs) (length counts)) [
      | inl same ↦
          let ns : drop p needs ≡ [] = drop_all p needs (omega arith) in
          let cs : drop p counts ≡ [] = drop_all p counts (omega arith) in
          let test : (length needs == length counts) ≡ true = eq-eqb (length needs) (length counts) same in
          rw (ns, cs, test) refl
      | inr other ↦ elim other [
        | inl less ↦
            let ns : drop p needs ≡ [] = drop_all p needs (omega arith) in
            let cs : drop p counts ≡ get_or counts p [] ∷ drop (p + 1) counts = drop_more counts p [] (omega arith) in
            let test : (length needs == length counts) ≡ false = ne_eqb (length needs) (length counts) (λ e. omega arith) in
            rw (ns, cs, test) refl
        | inr more ↦
            let ns : drop p needs ≡ get_or needs p [] ∷ drop (p + 1) needs = drop_more needs p [] (omega arith) in
            let cs : drop p counts ≡ [] = drop_all p counts (omega arith) in
            let test : (length needs == length counts) ≡ false = ne_eqb (length needs) (length counts) (λ e. omega arith) in
            rw (ns, cs, test) refl
      ]
    ]

pub lacking_from-end : (p : ℕ) (plan : List PlanPhase) (choices : List (List (List ℕ))) → p ≡ min (length plan) (length choices) → lacking_from p (drop p plan) (drop p choices) ≡ cond (length plan == length choices) None (breaks Shape p 0 0)
lacking_from-end p plan choices is =
    let none : PlanPhase = record { published = 0; needs = [] } in
    elim (cases_order (length plan) (length choices)) [
      | inl same ↦
          let ps : drop p plan ≡ [] = drop_all p plan (omega arith) in
          let cs : drop p choices ≡ [] = drop_all p choices (omega arith) in
          let test : (length plan == length choices) ≡ true = eq-eqb (length plan) (length choices) same in
          rw (ps, cs, test) refl
      | inr other ↦ elim other [
        | inl less ↦
            let ps : drop p plan ≡ [] = drop_all p plan (omega arith) in
            let cs : drop p choices ≡ get_or choices p [] ∷ drop (p + 1) choices = drop_more choices p [] (omega arith) in
            let test : (length plan == length choices) ≡ false = ne_eqb (length plan) (length choices) (λ e. omega arith) in
            rw (ps, cs, test) refl
        | inr more ↦
            let ps : drop p plan ≡ get_or plan p none ∷ drop (p + 1) plan = drop_more plan p none (omega arith) in
            let cs : drop p choices ≡ [] = drop_all p choices (omega arith) in
            let test : (length plan == length choices) ≡ false = ne_eqb (length plan) (length choices) (λ e. omega arith) in
            rw (ps, cs, test) refl
      ]
    ]

pub on-no_counts : (phase p k last published : ℕ) (needs : List ℕ) → illegal_on phase p k last published needs [] ≡ None
on-no_counts phase p k last published [] = refl
on-no_counts phase p k last published (n ∷ needs) = refl

in-no_counts : (phase p published : ℕ) (lasts : List ℕ) (needs : List (List ℕ)) → illegal_in phase p lasts published needs [] ≡ None
in-no_counts phase p published lasts [] = refl
in-no_counts phase p published lasts (n ∷ needs) = refl

from-no_counts : (phase : ℕ) (lasts : List ℕ) (plan : List PlanPhase) → illegal_from phase lasts plan [] ≡ None
from-no_counts phase lasts [] = refl
from-no_counts phase lasts (p ∷ plan) = refl

pub last-lacking_in : (phase p m a b : ℕ) (needs counts : List (List ℕ)) (first r : Option Illegal) → a ≡ length needs → b ≡ length counts → m ≡ min (length needs) (length counts) → p ≡ m → first ≡ lacking_in phase p (drop p needs) (drop p counts) → r ≡ cond (a == b) None (breaks Shape phase m 0) → r ≡ first
last-lacking_in phase p m a b needs counts first r is_a is_b is_m is_p so_far is =
    is ∙ ap (λ n. cond (n == b) None (breaks Shape phase m 0)) is_a ∙ ap (λ n. cond (length needs == n) None (breaks Shape phase m 0)) is_b
    ∙ ap (λ n. cond (length needs == length counts) None (breaks Shape phase n 0)) (sym is_p)
    ∙ sym (lacking_in-end phase p needs counts (is_p ∙ is_m)) ∙ sym so_far

pub last-lacking_from : (p m a b : ℕ) (plan : List PlanPhase) (choices : List (List (List ℕ))) (first r : Option Illegal) → a ≡ length plan → b ≡ length choices → m ≡ min (length plan) (length choices) → p ≡ m → first ≡ lacking_from p (drop p plan) (drop p choices) → r ≡ cond (a == b) None (breaks Shape m 0 0) → r ≡ first
last-lacking_from p m a b plan choices first r is_a is_b is_m is_p so_far is =
    is ∙ ap (λ n. cond (n == b) None (breaks Shape m 0 0)) is_a ∙ ap (λ n. cond (length plan == n) None (breaks Shape m 0 0)) is_b
    ∙ ap (λ n. cond (length plan == length choices) None (breaks Shape n 0 0)) (sym is_p)
    ∙ sym (lacking_from-end p plan choices (is_p ∙ is_m)) ∙ sym so_far

pub illegal_on-end : (phase p k last published : ℕ) (needs counts : List ℕ) → min (length needs) (length counts) ≤ k → illegal_on phase p k last published (drop k needs) (drop k counts) ≡ None
illegal_on-end phase p k last published needs counts past =
    elim (cases_order (length needs) (length counts)) [
      | inl same ↦ let ns : drop k needs ≡ [] = drop_all k needs (omega arith) in rw ns refl
      | inr other ↦ elim other [
        | inl less ↦ let ns : drop k needs ≡ [] = drop_all k needs (omega arith) in rw ns refl
        | inr more ↦ let cs : drop k counts ≡ [] = drop_all k counts (omega arith) in rw cs (on-no_counts phase p k last published (drop k needs))
      ]
    ]

pub illegal_in-end : (phase p published : ℕ) (lasts : List ℕ) (needs counts : List (List ℕ)) → min (length needs) (length counts) ≤ p → illegal_in phase p lasts published (drop p needs) (drop p counts) ≡ None
illegal_in-end phase p published lasts needs counts past =
    elim (cases_order (length needs) (length counts)) [
      | inl same ↦ let ns : drop p needs ≡ [] = drop_all p needs (omega arith) in rw ns refl
      | inr other ↦ elim other [
        | inl less ↦ let ns : drop p needs ≡ [] = drop_all p needs (omega arith) in rw ns refl
        | inr more ↦ let cs : drop p counts ≡ [] = drop_all p counts (omega arith) in rw cs (in-no_counts phase p published lasts (drop p needs))
      ]
    ]

pub illegal_from-end : (phase : ℕ) (lasts : List ℕ) (plan : List PlanPhase) (choices : List (List (List ℕ))) → min (length plan) (length choices) ≤ phase → illegal_from phase lasts (drop phase plan) (drop phase choices) ≡ None
illegal_from-end phase lasts plan choices past =
    elim (cases_order (length plan) (length choices)) [
      | inl same ↦ let ps : drop phase plan ≡ [] = drop_all phase plan (omega arith) in rw ps refl
      | inr other ↦ elim other [
        | inl less ↦ let ps : drop phase plan ≡ [] = drop_all phase plan (omega arith) in rw ps refl
        | inr more ↦ let cs : drop phase choices ≡ [] = drop_all phase choices (omega arith) in rw cs (from-no_counts phase lasts (drop phase plan))
      ]
    ]
