-- The first break of a list of rules is a break, and no other comes before it.
use Rattle.std.proofs.Common.{◌≡◌, ℕ, zero, suc, ◌+◌, ◌-◌, ◌<◌, ◌≤◌, ◌⊎◌, ◌↔◌, min, true, false, List, [], ◌∷◌, get_or, Option, Some, None, Contains, refl, ap, subst, ◌∙◌, inl, inr, ⊎_elim, arith}
use Rattle.std.proofs.lemmas.Bool.{cases_lt, false≢true}
use Rattle.std.proofs.lemmas.List.Elements.{Contains-append_left, Contains-append_right, Contains-append_cases, Contains-push, Contains-push_cases}
use Rattle.elf_objects.specs.declared.bad_elf.BadElf.{BadElf}
use Rattle.elf_objects.specs.Breaks.{Test, earlier, first_place, break_or, first_broken}
use Rattle.elf_objects.specs.Object.{rules, first_break, IsBroken, IsFirstBreak}
use Rattle.elf_objects.proofs.Search.{earlier-none}
use Rattle.elf_objects.proofs.Soundness.{none_broken}

contains_cons : {X : Type 0} (y x : X) (ys : List X) → Contains (y ∷ ys) x → (y ≡ x) ⊎ Contains ys x
contains_cons {X} y x ys h = ⊎_elim
    (λ (here : Contains (y ∷ []) x). inl (⊎_elim (λ (no : Contains {X = X} [] x). absurd (omega (arith, no.1))) (λ (e : y ≡ x). e) (Contains-push_cases [] y x here)))
    (λ (there : Contains ys x). inr there)
    (Contains-append_cases (y ∷ []) ys x h)

contains_here : {X : Type 0} (y : X) (ys : List X) → Contains (y ∷ ys) y
contains_here y ys = Contains-append_left (y ∷ []) ys y (Contains-push [] y)

contains_there : {X : Type 0} (y x : X) (ys : List X) → Contains ys x → Contains (y ∷ ys) x
contains_there y x ys h = Contains-append_right (y ∷ []) ys x h

-- where there is no least place, the rule is broken nowhere
place_none : (tests : List Test) → first_place tests ≡ None → (place : ℕ) → Contains tests (place, true) → ⊥
place_none [] none place h = omega (arith, h.1)
place_none ((here, false) ∷ tests) none place h = ⊎_elim
    (λ (e : (here, false) ≡ (place, true)). false≢true (ap (λ (t : Test). t.1) e))
    (λ (there : Contains tests (place, true)). place_none tests none place there)
    (contains_cons (here, false) (place, true) tests h)
place_none ((here, true) ∷ tests) none place h = earlier-none here (first_place tests) none

-- the least place is one where the rule is broken, and none is less
record IsLeast (tests : List Test) (place : ℕ) : Type 0 where
  broken : Contains tests (place, true)
  least : (other : ℕ) → Contains tests (other, true) → place ≤ other

least_here : (tests : List Test) (here place : ℕ) (rest : Option ℕ) → first_place tests ≡ rest → ((p : ℕ) → rest ≡ Some p → IsLeast tests p) → earlier (Some here) rest ≡ Some place → IsLeast ((here, true) ∷ tests) place
least_here tests here place None none later is =
    let e : here ≡ place = cc in
    record {
      broken = subst (λ p. Contains ((here, true) ∷ tests) (p, true)) e (contains_here (here, true) tests);
      least = λ other h. ⊎_elim
          (λ (same : (here, true) ≡ (other, true)). let o = ap (λ (t : Test). t.0) same in omega arith)
          (λ (there : Contains tests (other, true)). absurd (place_none tests none other there))
          (contains_cons (here, true) (other, true) tests h);
    }
least_here tests here place (Some p) some later is =
    let e : min here p ≡ place = cc in
    let rest = later p refl in
    record {
      broken = ⊎_elim
          (λ (before : here < p). subst (λ q. Contains ((here, true) ∷ tests) (q, true)) (omega arith) (contains_here (here, true) tests))
          (λ (behind : p ≤ here). subst (λ q. Contains ((here, true) ∷ tests) (q, true)) (omega arith) (contains_there (here, true) (p, true) tests rest.broken))
          (cases_lt here p);
      least = λ other h. ⊎_elim
          (λ (same : (here, true) ≡ (other, true)). let o = ap (λ (t : Test). t.0) same in omega arith)
          (λ (there : Contains tests (other, true)). let below = rest.least other there in omega arith)
          (contains_cons (here, true) (other, true) tests h);
    }

place_some : (tests : List Test) (place : ℕ) → first_place tests ≡ Some place → IsLeast tests place
place_some [] place is = absurd (cc)
place_some ((here, false) ∷ tests) place is =
    let rest = place_some tests place is in
    record {
      broken = contains_there (here, false) (place, true) tests rest.broken;
      least = λ other h. ⊎_elim
          (λ (e : (here, false) ≡ (other, true)). absurd (false≢true (ap (λ (t : Test). t.1) e)))
          (λ (there : Contains tests (other, true)). rest.least other there)
          (contains_cons (here, false) (other, true) tests h);
    }
place_some ((here, true) ∷ tests) place is = least_here tests here place (first_place tests) refl (place_some tests) is

-- the first break of rules that are numbered on from one
record IsFirst (from : ℕ) (others : List (List Test)) (bad : BadElf) : Type 0 where
  numbered : from ≤ bad.rule
  broken : Contains (get_or others (bad.rule - from) []) (bad.offset, true)
  first : (k place : ℕ) → Contains (get_or others k []) (place, true) → (bad.rule < from + k) ⊎ ((bad.rule ≡ from + k) × (bad.offset ≤ place))

ap_some : {X Y : Type 0} (f : X → Y) {x y : X} → Some x ≡ Some y → f x ≡ f y
ap_some f e = ap f (cc)

by_rule : (from : ℕ) (tests : List Test) (others : List (List Test)) (bad : BadElf) → ((place : ℕ) → Contains tests (place, true) → (bad.rule < from + 0) ⊎ ((bad.rule ≡ from + 0) × (bad.offset ≤ place)))
    → ((k place : ℕ) → Contains (get_or others k []) (place, true) → (bad.rule < from + suc k) ⊎ ((bad.rule ≡ from + suc k) × (bad.offset ≤ place)))
    → (k place : ℕ) → Contains (get_or (tests ∷ others) k []) (place, true) → (bad.rule < from + k) ⊎ ((bad.rule ≡ from + k) × (bad.offset ≤ place))
by_rule from tests others bad here later zero place h = here place h
by_rule from tests others bad here later (suc k) place h = later k place h

moved : (from k : ℕ) (bad : BadElf) (place : ℕ) → (bad.rule < suc from + k) ⊎ ((bad.rule ≡ suc from + k) × (bad.offset ≤ place)) → (bad.rule < from + suc k) ⊎ ((bad.rule ≡ from + suc k) × (bad.offset ≤ place))
moved from k bad place (inl less) = inl (omega arith)
moved from k bad place (inr (same, behind)) = inr (omega arith, behind)

first_here : (from : ℕ) (tests : List Test) (others : List (List Test)) (bad : BadElf) (place : Option ℕ) → first_place tests ≡ place → (first_broken (suc from) others ≡ Some bad → IsFirst (suc from) others bad) → break_or from place (first_broken (suc from) others) ≡ Some bad → IsFirst from (tests ∷ others) bad
first_here from tests others bad (Some place) some later is =
    let rule : from ≡ bad.rule = ap_some (λ (b : BadElf). b.rule) is in
    let offset : place ≡ bad.offset = ap_some (λ (b : BadElf). b.offset) is in
    let here = place_some tests place some in
    record {
      numbered = omega arith;
      broken = let at : 0 ≡ bad.rule - from = omega arith in
          subst (λ k. Contains (get_or (tests ∷ others) k []) (bad.offset, true)) at (subst (λ p. Contains tests (p, true)) offset here.broken);
      first = by_rule from tests others bad (λ other h. let below = here.least other h in inr (omega arith, omega arith)) (λ k other h. inl (omega arith));
    }
first_here from tests others bad None none later is =
    let rest = later is in
    record {
      numbered = let numbered = rest.numbered in omega arith;
      broken = let numbered = rest.numbered in
          let at : suc (bad.rule - suc from) ≡ bad.rule - from = omega arith in
          subst (λ k. Contains (get_or (tests ∷ others) k []) (bad.offset, true)) at rest.broken;
      first = by_rule from tests others bad (λ other h. absurd (place_none tests none other h)) (λ k other h. moved from k bad other (rest.first k other h));
    }

first_of : (from : ℕ) (others : List (List Test)) (bad : BadElf) → first_broken from others ≡ Some bad → IsFirst from others bad
first_of from [] bad is = absurd (cc)
first_of from (tests ∷ others) bad is = first_here from tests others bad (first_place tests) refl (first_of (suc from) others bad) is

renumbered : (rule : ℕ) (bad : BadElf) (place : ℕ) → 1 ≤ rule → (bad.rule < 1 + (rule - 1)) ⊎ ((bad.rule ≡ 1 + (rule - 1)) × (bad.offset ≤ place)) → (bad.rule < rule) ⊎ ((bad.rule ≡ rule) × (bad.offset ≤ place))
renumbered rule bad place numbered (inl less) = inl (omega arith)
renumbered rule bad place numbered (inr (same, behind)) = inr (omega arith, behind)

same_break : (a b : BadElf) → (a.rule < b.rule) ⊎ ((a.rule ≡ b.rule) × (a.offset ≤ b.offset)) → (b.rule < a.rule) ⊎ ((b.rule ≡ a.rule) × (b.offset ≤ a.offset)) → a ≡ b
same_break a b (inl less) (inl more) = absurd (omega arith)
same_break a b (inl less) (inr (same, behind)) = absurd (omega arith)
same_break a b (inr (same, behind)) (inl more) = absurd (omega arith)
same_break a b (inr (same, behind)) (inr (again, before)) =
    let offset : a.offset ≡ b.offset = omega arith in
    ap (λ (x : ℕ). record { offset = x; rule = a.rule }) offset ∙ ap (λ (x : ℕ). record { offset = b.offset; rule = x }) same

-- no rule of an unbroken file is broken
pub never_broken : (file : List ℕ) → first_break file ≡ None → (rule place : ℕ) → IsBroken file rule place → ⊥
unfolding first_break
never_broken file unbroken rule place broken = place_none (get_or (rules file) (rule - 1) []) (none_broken 1 (rules file) unbroken (rule - 1)) place broken.tested

to_first : (file : List ℕ) (bad : BadElf) → first_break file ≡ Some bad → IsFirstBreak file bad
unfolding first_break
to_first file bad is =
    let first = first_of 1 (rules file) bad is in
    record {
      broken = record { numbered = first.numbered; tested = first.broken };
      first = λ rule place broken. renumbered rule bad place broken.numbered (first.first (rule - 1) place broken.tested);
    }

-- two first breaks are one
one_first : (file : List ℕ) (a b : BadElf) → IsFirstBreak file a → IsFirstBreak file b → a ≡ b
one_first file a b first second = same_break a b (first.first b.rule b.offset second.broken) (second.first a.rule a.offset first.broken)

from_first : (file : List ℕ) (bad : BadElf) (answer : Option BadElf) → first_break file ≡ answer → IsFirstBreak file bad → answer ≡ Some bad
from_first file bad None is first = absurd (never_broken file is bad.rule bad.offset first.broken)
from_first file bad (Some other) is first = ap Some (one_first file other bad (to_first file other is) first)

-- the first break is the break that none comes before
pub first_break_is_first : (file : List ℕ) (bad : BadElf) → (first_break file ≡ Some bad) ↔ IsFirstBreak file bad
first_break_is_first file bad = (to_first file bad, from_first file bad (first_break file) refl)
