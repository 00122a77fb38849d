-- The front of a name, and the whole of it, in the bytes of its table.
use Rattle.std.proofs.Common.{◌≡◌, ℕ, ◌+◌, ◌-◌, Bool, true, false, suc, not, ◌&&◌, ap, List, [], ◌∷◌, length, take, drop, get_or, refl, sym, ◌∙◌, arith}
use Rattle.std.specs.Prelude.{◌==◌, nat_eq, nat_lt}
use Rattle.std.specs.List.{before_first, position_or_len, list_all, list_any, starts_with}
use Rattle.std.specs.Str.{bytes_eq}
use Rattle.std.proofs.lemmas.Bool.Decides.{nat_tests}
use Rattle.std.proofs.lemmas.Grind.{common_steps}
use Rattle.std.proofs.lemmas.List.{take_rest}
use Rattle.elf_objects.specs.Names.{has_name, name_at}

abbrev before_zero : List ℕ → List ℕ
before_zero bytes = before_first (λ b. b == 0) bytes

before-nil : (x : ℕ) (xs : List ℕ) → (x == 0) ≡ true → before_zero (x ∷ xs) ≡ []
before-nil x xs zero_here = rw zero_here refl

before-cons : (x : ℕ) (xs : List ℕ) → (x == 0) ≡ false → before_zero (x ∷ xs) ≡ x ∷ before_zero xs
before-cons x xs other =
    let next : 1 + position_or_len (λ b. b == 0) xs ≡ suc (position_or_len (λ b. b == 0) xs) = omega arith in
    rw (other, next) refl

front-by : (x f : ℕ) (xs front : List ℕ) (b : Bool) → (x == 0) ≡ b → (f == 0) ≡ false → starts_with nat_eq (before_zero xs) front ≡ starts_with nat_eq xs front → starts_with nat_eq (before_zero (x ∷ xs)) (f ∷ front) ≡ starts_with nat_eq (x ∷ xs) (f ∷ front)
front-by x f xs front true here other rest =
    let apart : nat_eq f x ≡ false = grind (arith, nat_tests) in
    rw (before-nil x xs here, apart) refl
front-by x f xs front false here other rest =
    rw (before-cons x xs here) (ap (λ more. nat_eq f x && more) rest)

no_zero : (f : ℕ) (front : List ℕ) → list_all (λ byte. not (byte == 0)) (f ∷ front) ≡ true → ((f == 0) ≡ false) × (list_all (λ byte. not (byte == 0)) front ≡ true)
no_zero f front text = (grind (arith, nat_tests), grind (arith, nat_tests))

front-at : (xs front : List ℕ) → list_all (λ byte. not (byte == 0)) front ≡ true → starts_with nat_eq (before_zero xs) front ≡ starts_with nat_eq xs front
front-at xs [] text = refl
front-at [] (f ∷ front) text = refl
front-at (x ∷ xs) (f ∷ front) text =
    let none = no_zero f front text in
    front-by x f xs front (x == 0) refl none.0 (front-at xs front none.1)

whole-at : (xs name : List ℕ) → list_any (λ b. b == 0) xs ≡ true → list_all (λ byte. not (byte == 0)) name ≡ true → bytes_eq (before_zero xs) name ≡ (starts_with nat_eq xs name && (nat_lt (length name) (length xs) && (get_or xs (length name) 0 == 0)))
whole-at [] name ends text = absurd (cc)
whole-at (x ∷ xs) [] ends text = grind (arith, common_steps, nat_tests)
whole-at (x ∷ xs) (n ∷ name) ends text = grind (arith, common_steps, nat_tests, whole-at xs name)

pub begins : (table : List ℕ) (place : ℕ) (front : List ℕ) → list_all (λ byte. not (byte == 0)) front ≡ true → starts_with nat_eq (take (length table - place) (drop place table)) front ≡ starts_with nat_eq (name_at table place) front
begins table place front text = rw (take_rest table place) (sym (front-at (drop place table) front text))

pub whole : (table : List ℕ) (place : ℕ) (rest name : List ℕ) → rest ≡ take (length table - place) (drop place table) → has_name table place ≡ true → list_all (λ byte. not (byte == 0)) name ≡ true → (starts_with nat_eq rest name && (nat_lt (length name) (length rest) && (get_or rest (length name) 0 == 0))) ≡ bytes_eq (name_at table place) name
unfolding has_name
whole table place rest name is ends text =
    let suffix : rest ≡ drop place table = is ∙ take_rest table place in
    rw suffix (sym (whole-at (drop place table) name ends text))

pub ruleset fronts = begins
