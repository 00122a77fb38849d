-- Flags that no row has leave the rows as they are.
use Rattle.std.proofs.Common.{◌≡◌, ℕ, true, false, Bool, ◌||◌, nat_lt, List, [], ◌∷◌, length, Result, Ok, Err, OnOk, OnErr, IsErr, ◌↔◌, refl, sym, ◌∙◌, arith}
use Rattle.std.specs.List.{list_any}
use Rattle.std.proofs.lemmas.Bool.Decides.{nat_tests}
use Rattle.filter_rules.specs.Rule.{answers}
use Rattle.filter_rules.specs.Rules.{has_row, has_rule, clear_rule, replace_first}
use Rattle.filter_rules.specs.declared.rule.RuleKey.{RuleKey}
use Rattle.filter_rules.specs.declared.rule.RuleRow.{RuleRow}

replace_first-none : {X : Type 0} (p : X → Bool) (items : X → List X) (xs : List X) → list_any p xs ≡ false → replace_first p items xs ≡ xs
replace_first-none p items [] none = refl
replace_first-none p items (x ∷ xs) none = grind (arith, nat_tests, replace_first-none p items xs)

pub clear_rule-none : (rows : List RuleRow) (key : RuleKey) (flags : ℕ) → has_rule rows key flags ≡ false → clear_rule rows key flags ≡ rows
clear_rule-none rows key flags none = replace_first-none (answers key flags) _ rows none

pub cleared : {A B : Type 0} (r : Result A B) (old new : List RuleRow) (key : RuleKey) (flags : ℕ) → OnOk r (new ≡ clear_rule old key flags) → (IsErr r ↔ (has_rule old key flags ≡ false)) → OnErr r (new ≡ old) → new ≡ clear_rule old key flags
cleared (Ok a) old new key flags ok none err = ok
cleared (Err b) old new key flags ok none err = err ∙ sym (clear_rule-none old key flags (none.0 refl))

-- rows that have a place take the flags
pub added : {A B : Type 0} (r : Result A B) (old new others : List RuleRow) (key : RuleKey) → OnOk r (new ≡ others) → (IsErr r ↔ ((has_row old key ≡ false) × (length old ≡ 4096))) → (has_row old key || nat_lt (length old) 4096) ≡ true → new ≡ others
added (Ok a) old new others key ok full place = ok
added (Err b) old new others key ok full place =
    let why = full.0 refl in
    let none : has_row old key ≡ false = why.0 in
    let many : length old ≡ 4096 = why.1 in
    absurd (let there = rw (none, many) at place in cc)
