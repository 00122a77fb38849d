-- How many names of a list are less than another one.
use Rattle.std.proofs.Common.{◌≡◌, ℕ, zero, suc, ◌+◌, ◌<◌, ◌≤◌, Bool, true, false, not, cond, ◌&&◌, ◌||◌, List, [], ◌∷◌, ◌++◌, length, drop, refl, sym, ap, ◌∙◌, inl, inr, subst, slice_get, Some, nat_eq, add-one, arith}
use Rattle.std.specs.Prelude.{◌^◌, count_by, slice_index_or}
use Rattle.std.specs.Cmp.Lexicographic.{pointwise, bytes_decides}
use Rattle.std.proofs.lemmas.Bool.{cases_Bool, or_right}
use Rattle.std.proofs.lemmas.Bool.Decides.{nat_tests}
use Rattle.std.proofs.lemmas.List.{length-map, map-append}
use Rattle.std.proofs.lemmas.List.Folds.{list_any-append}
use Rattle.std.proofs.lemmas.List.Sums.{sum_by-cons}
use Rattle.std.proofs.Math.Seq.{drop-cons}
use Rattle.object_load.specs.declared.program.Program.{Program}
use Rattle.xdp_state.specs.Library.{all_names, different, filter_name, is_among, is_last_less, is_less, is_named, is_named_in, lesser, names_of, program_at, programs_in, programs_of, rank}
use Rattle.xdp_state.specs.declared.library.Library.{Library}
use Rattle.xdp_state.specs.declared.library.ObjectRow.{ObjectRow}

abbrev pub bit : Bool → ℕ
bit b = cond b 1 0

-- a name counts where it is less and isn't there again
pub lesser-cons : (first : List ℕ) (names : List (List ℕ)) (name : List ℕ) → lesser (first ∷ names) name ≡ bit (is_less first name && not (is_among first names)) + lesser names name
unfolding lesser
lesser-cons first names name = by (is_among first names) (is_less first name) refl refl where
  by : (b c : Bool) → is_among first names ≡ b → is_less first name ≡ c → count_by (λ other. is_less other name) (different (first ∷ names)) ≡ bit (is_less first name && not (is_among first names)) + count_by (λ other. is_less other name) (different names)
  by true true again less = rw (again, less) (omega arith)
  by true false again less = rw (again, less) (omega arith)
  by false true again less = rw again (rw (sum_by-cons (λ other. cond (is_less other name) 1 0) first (different names), less) refl)
  by false false again less = rw again (rw (sum_by-cons (λ other. cond (is_less other name) 1 0) first (different names), less) refl)

pub lesser-nil : (name : List ℕ) → lesser [] name ≡ 0
unfolding lesser
lesser-nil name = refl

bit_le : (b : Bool) → bit b ≤ 1
bit_le true = omega arith
bit_le false = omega arith

pub lesser-le : (names : List (List ℕ)) (name : List ℕ) → lesser names name ≤ length names
lesser-le [] name = omega (arith, lesser-nil name)
lesser-le (first ∷ names) name =
    omega (arith, lesser-cons first names name, bit_le (is_less first name && not (is_among first names)), lesser-le names name)

cmp_itself : (name : List ℕ) → is_less name name ≡ false
cmp_itself [] = refl
cmp_itself (x ∷ name) = grind (arith, nat_tests, cmp_itself name)

-- a name isn't less than itself
pub lesser-lt : (names : List (List ℕ)) (name : List ℕ) → is_among name names ≡ true → lesser names name < length names
lesser-lt [] name among = absurd cc
lesser-lt (first ∷ names) name among =
    elim (cases_Bool (pointwise nat_eq name first)) [
      | inl same ↦
          let is : name ≡ first = (bytes_decides name first).0 same in
          let not_less : is_less first name ≡ false = subst (λ n. is_less n name ≡ false) is (cmp_itself name) in
          let none : bit (is_less first name && not (is_among first names)) ≡ 0 = rw not_less refl in
          omega (arith, lesser-cons first names name, none, lesser-le names name)
      | inr other ↦
          let behind : is_among name names ≡ true = rw other at among in
          omega (arith, lesser-cons first names name, bit_le (is_less first name && not (is_among first names)), lesser-lt names name behind)
    ]

-- the names of two lists of programs
pub names_of-append : (programs others : List Program) → names_of (programs ++ others) ≡ names_of programs ++ names_of others
names_of-append programs others = map-append (λ program. program.name) programs others

pub is_among-append : (name : List ℕ) (names others : List (List ℕ)) → is_among name (names ++ others) ≡ (is_among name names || is_among name others)
is_among-append name names others = list_any-append (pointwise nat_eq name) names others

-- what the code asks of names
pub named-among : (name : List ℕ) (programs : List Program) → is_named name programs ≡ is_among name (names_of programs)
named-among name [] = refl
named-among name (p ∷ programs) = ap (λ b. pointwise nat_eq name p.name || b) (named-among name programs)

pub named_in-among : (name : List ℕ) (objects : List ObjectRow) → is_named_in name objects ≡ is_among name (names_of (programs_of objects))
named_in-among name [] = refl
named_in-among name (o ∷ objects) =
    let here = programs_in o.loaded in
    let split : names_of (programs_of (o ∷ objects)) ≡ names_of here ++ names_of (programs_of objects) = names_of-append here (programs_of objects) in
    ap (λ b. b || is_named_in name objects) (named-among name here)
    ∙ ap (λ b. is_among name (names_of here) || b) (named_in-among name objects)
    ∙ sym (is_among-append name (names_of here) (names_of (programs_of objects)))
    ∙ sym (ap (is_among name) split)

not_either : (a b : Bool) → not (a || b) ≡ (not a && not b)
not_either true b = refl
not_either false b = refl

last_less-is : (other : List ℕ) (programs : List Program) (objects : List ObjectRow) (name : List ℕ)
    → is_last_less other programs objects name ≡ (is_less other name && not (is_among other (names_of programs ++ names_of (programs_of objects))))
last_less-is other programs objects name =
    let names = names_of programs in
    let others = names_of (programs_of objects) in
    ap (λ b. is_less other name && (not b && not (is_named_in other objects))) (named-among other programs)
    ∙ ap (λ b. is_less other name && (not (is_among other names) && not b)) (named_in-among other objects)
    ∙ ap (λ b. is_less other name && b) (sym (not_either (is_among other names) (is_among other others)))
    ∙ ap (λ b. is_less other name && not b) (sym (is_among-append other names others))

-- one name more
pub lesser-more : (other : List ℕ) (programs : List Program) (objects : List ObjectRow) (name : List ℕ)
    → lesser (other ∷ names_of programs ++ names_of (programs_of objects)) name ≡ bit (is_last_less other programs objects name) + lesser (names_of programs ++ names_of (programs_of objects)) name
lesser-more other programs objects name =
    let all = names_of programs ++ names_of (programs_of objects) in
    lesser-cons other all name ∙ ap (λ b. bit b + lesser all name) (sym (last_less-is other programs objects name))

-- the names from a place on, and from the next one
pub lesser-next : (programs : List Program) (behind : List ObjectRow) (name : List ℕ) (place : ℕ) (program : Program) → place < length programs → program ≡ slice_index_or programs place program
    → lesser (names_of (drop place programs) ++ names_of (programs_of behind)) name
    ≡ bit (is_last_less program.name (drop (place + 1) programs) behind name) + lesser (names_of (drop (place + 1) programs) ++ names_of (programs_of behind)) name
lesser-next programs behind name place program below is =
    let at : drop place programs ≡ program ∷ drop (place + 1) programs = rw (drop-cons programs place program below, ← is, add-one) refl in
    ap (λ ps. lesser (names_of ps ++ names_of (programs_of behind)) name) at ∙ lesser-more program.name (drop (place + 1) programs) behind name

-- how the code counts a rank
pub rank-counted : (library : Library) (name : List ℕ) (first : ℕ) (filter : Bool) → first ≡ lesser (names_of (programs_of library.objects)) name → filter ≡ is_last_less filter_name [] library.objects name → bit filter + first ≡ rank library name
rank-counted library name first filter counted last =
    let one = ap bit last in
    omega (arith, lesser-more filter_name [] library.objects name, counted, one)

pub rank-fits : (library : Library) (name : List ℕ) → length (programs_of library.objects) < 2 ^ 32 → is_among name (all_names library) ≡ true → rank library name < 2 ^ 32
rank-fits library name few known =
    let below : rank library name < length (all_names library) = lesser-lt (all_names library) name known in
    let long : length (names_of (programs_of library.objects)) ≡ length (programs_of library.objects) = length-map (programs_of library.objects) (λ program. program.name) in
    omega (arith, below, long, few)

-- the names that have a rank
among-itself : (name : List ℕ) (names : List (List ℕ)) → is_among name (name ∷ names) ≡ true
among-itself name names = rw ((bytes_decides name name).1 refl) refl

among-at : (programs : List Program) (number : ℕ) (program : Program) → slice_get programs number ≡ Some program → is_among program.name (names_of programs) ≡ true
among-at [] number program is = absurd cc
among-at (p ∷ programs) zero program is = let same : p ≡ program = cc in rw same (among-itself program.name (names_of programs))
among-at (p ∷ programs) (suc number) program is =
    or_right (pointwise nat_eq program.name p.name) (is_among program.name (names_of programs)) (among-at programs number program is)

pub program-known : (library : Library) (number : ℕ) (program : Program) → program_at library number ≡ Some program → is_among program.name (all_names library) ≡ true
program-known library number program is =
    let names = names_of (programs_of library.objects) in
    or_right (pointwise nat_eq program.name filter_name) (is_among program.name names) (among-at (programs_of library.objects) number program is)

pub filter-known : (library : Library) → is_among filter_name (all_names library) ≡ true
filter-known library = among-itself filter_name (names_of (programs_of library.objects))
