-- Names, and the first place at which a test passes.
use Rattle.std.proofs.Common.{◌≡◌, ℕ, zero, suc, ◌<◌, ◌-◌, ◌&&◌, min, nat_eq, Bool, true, false, List, [], ◌∷◌, length, take, drop, get_or, Some, None, refl, inl, inr, ◌+◌, add-one, slice_get, ap, sym, ◌∙◌, arith, position}
use Rattle.std.proofs.lemmas.Option.{get_or_from_slice_get, slice_get_within}
use Rattle.std.proofs.lemmas.List.{get_or_default}
use Rattle.std.proofs.lemmas.Bool.{cases_eq}
use Rattle.btf_types.specs.declared.types.TypeRow.{TypeRow}
use Rattle.btf_types.specs.TypeTable.{TypeTable, type_at, is_section_named, section_vars}
use Rattle.std.specs.List.{before_first, position_or_len}
use Rattle.std.specs.Str.{bytes_eq}
use Rattle.std.proofs.lemmas.List.{take_all, take_min, take_rest}
use Rattle.std.proofs.lemmas.List.Sums.{position_or_len_is}
use Rattle.std.proofs.lemmas.Option.{cond_some}
use Rattle.std.proofs.lemmas.Bool.{le-ltb, lt-ltb, ltb-false}

-- what stands in front of the first that passes
pub before_first-Some : {X : Type 0} (p : X → Bool) (xs : List X) (i : ℕ) → position p xs ≡ Some i → take i xs ≡ before_first p xs
before_first-Some p xs i h = ap (λ n. take n xs) (sym (cond_some _ _ _ h).1)

-- all, where none passes
pub before_first-None : {X : Type 0} (p : X → Bool) (xs : List X) → position p xs ≡ None → xs ≡ before_first p xs
before_first-None p xs h = grind (arith, take_all, ltb-false)

pub ruleset before_first_at = (before_first-Some, before_first-None)

before_first-nil : {X : Type 0} (p : X → Bool) (x : X) (xs : List X) → p x ≡ true → before_first p (x ∷ xs) ≡ []
before_first-nil p x xs passes = rw passes refl

before_first-cons : {X : Type 0} (p : X → Bool) (x : X) (xs : List X) → p x ≡ false → before_first p (x ∷ xs) ≡ x ∷ before_first p xs
before_first-cons p x xs fails =
    let next : 1 + position_or_len p xs ≡ suc (position_or_len p xs) = omega arith in
    rw (fails, next) refl

take-by : {X : Type 0} (p : X → Bool) (n : ℕ) (x : X) (xs : List X) (b : Bool) → p x ≡ b → before_first p (take n xs) ≡ take n (before_first p xs) → before_first p (x ∷ take n xs) ≡ take (suc n) (before_first p (x ∷ xs))
take-by p n x xs true passes rest = rw (before_first-nil p x (take n xs) passes, before_first-nil p x xs passes) refl
take-by p n x xs false fails rest =
    rw (before_first-cons p x (take n xs) fails, before_first-cons p x xs fails) (ap (λ more. x ∷ more) rest)

-- the front of what stands before the first that passes, found in the front alone
before_first-take : {X : Type 0} (p : X → Bool) (n : ℕ) (xs : List X) → before_first p (take n xs) ≡ take n (before_first p xs)
before_first-take p zero xs = refl
before_first-take p (suc n) [] = refl
before_first-take p (suc n) (x ∷ xs) = take-by p n x xs (p x) refl (before_first-take p n xs)

-- the front of a name, in as many of the strings' bytes from its place on
pub front_at : (p : ℕ → Bool) (strings : List ℕ) (place limit : ℕ) (rest : List ℕ) → rest ≡ take (length strings - place) (drop place strings) → before_first p (take (min (length rest) limit) rest) ≡ take limit (before_first p (drop place strings))
front_at p strings place limit rest is =
    let suffix : rest ≡ drop place strings = is ∙ take_rest strings place in
    let order : min (length (drop place strings)) limit ≡ min limit (length (drop place strings)) = omega arith in
    rw (suffix, order, take_min limit (drop place strings)) (before_first-take p limit (drop place strings))

same-front : (xs name : List ℕ) → bytes_eq (take (suc (length name)) xs) name ≡ bytes_eq xs name
same-front [] name = refl
same-front (x ∷ xs) [] = refl
same-front (x ∷ xs) (n ∷ name) = ap (λ more. nat_eq x n && more) (same-front xs name)

-- one byte more than a name has tells whether it is the name
pub front_is : (xs name : List ℕ) → bytes_eq (take (length name + 1) xs) name ≡ bytes_eq xs name
front_is xs name = rw add-one (same-front xs name)

-- the first that passes, from the tests on it and on those before it
pub position-first : {X : Type 0} (p : X → Bool) (xs : List X) (i : ℕ) (d : X) → i < length xs → ((k : ℕ) → k < i → p (get_or xs k d) ≡ false) → p (get_or xs i d) ≡ true → position p xs ≡ Some i
position-first p xs i d h before here =
    let e = position_or_len_is p xs i d (omega arith) before (λ _. here) in
    rw (e, lt-ltb i (length xs) h) refl

-- none, where each fails
pub position-none : {X : Type 0} (p : X → Bool) (xs : List X) (d : X) → ((k : ℕ) → k < length xs → p (get_or xs k d) ≡ false) → position p xs ≡ None
position-none p xs d fails =
    let e = position_or_len_is p xs (length xs) d (omega arith) fails (λ h. absurd (omega arith)) in
    rw (e, le-ltb (length xs) (length xs) (omega arith)) refl

-- the place of a type is one below its number
pub type_at-next : (types : TypeTable) (place : ℕ) (row : TypeRow) → type_at types (place + 1) ≡ Some row → (place < length types.rows) × (get_or types.rows place row ≡ row)
type_at-next types place row h =
    let there : slice_get types.rows place ≡ Some row = rw add-one at h in
    (slice_get_within types.rows place row there, get_or_from_slice_get types.rows place row row there)

-- a section at a number, and none before it
pub section_vars-first : (types : TypeTable) (name : List ℕ) (place : ℕ) (row : TypeRow) → type_at types (place + 1) ≡ Some row → ((k : ℕ) (d : TypeRow) → k < place → is_section_named types name (get_or types.rows k d) ≡ false) → is_section_named types name row ≡ true → Some (place + 1) ≡ section_vars types name
section_vars-first types name place row h before here =
    let next = type_at-next types place row h in
    let test = is_section_named types name in
    let first = position-first test types.rows place row next.0 (λ k. before k row) (rw next.1 here) in
    rw first refl

-- no section of the name
pub section_vars-none : (types : TypeTable) (name : List ℕ) → ((k : ℕ) (d : TypeRow) → k < length types.rows → is_section_named types name (get_or types.rows k d) ≡ false) → None ≡ section_vars types name
section_vars-none types name fails =
    let any : TypeRow = record { kind = 0; name = 0; size_or_target = 0; first = 0; count = 0 } in
    let none = position-none (is_section_named types name) types.rows any (λ k. fails k any) in
    rw none refl

pub section_vars-more : (types : TypeTable) (name : List ℕ) (place : ℕ) (row : TypeRow) → type_at types (place + 1) ≡ Some row → ((k : ℕ) (d : TypeRow) → k < place → is_section_named types name (get_or types.rows k d) ≡ false) → is_section_named types name row ≡ false → (k : ℕ) (d : TypeRow) → k < place + 1 → is_section_named types name (get_or types.rows k d) ≡ false
section_vars-more types name place row h before here k d below =
    let next = type_at-next types place row h in
    elim (cases_eq k place) [ inl e ↦ rw (e, get_or_default types.rows place d row next.0, next.1) here | inr n ↦ before k d (omega arith) ]
