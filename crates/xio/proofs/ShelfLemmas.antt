-- The named file, once its place on the shelf is known.
use Rattle.std.proofs.Common.{◌≡◌, ◌≢◌, ℕ, ◌<◌, ◌⊎◌, nat_eq, nat_lt, Bool, true, false, cond, List, [], ◌∷◌, ◌++◌, length, get_or, Some, None, refl, sym, subst, ◌∙◌, ap, inl, inr, arith, zero, suc}
use Rattle.std.proofs.Math.ListN.{set}
use Rattle.std.specs.Prelude.{find, position, slice_get}
use Rattle.std.specs.Bool.{Decides}
use Rattle.std.specs.List.{position_or_len}
use Rattle.std.specs.Cmp.Lexicographic.{pointwise}
use Rattle.std.specs.Option.{option_map_or}
use Rattle.std.proofs.lemmas.Bool.Decides.{nat_tests}
use Rattle.std.proofs.lemmas.List.Folds.{find_at, find-set}
use Rattle.std.proofs.lemmas.List.Quantifiers.{position-Some}
use Rattle.std.proofs.lemmas.Option.{slice_get-get_or, slice_get_past}
use Rattle.std.proofs.lemmas.Slice.Eq.{bytes_eq-Decides}
use mathlib.Core.Path.{fun_ext}
use Rattle.xio.specs.Told.{set_named}
use Rattle.xio.specs.Shelf.{Setup, has_name, part_of, setup_of, setups_of}
use Rattle.xio.specs.declared.memory.stored_file.StoredFile.{StoredFile}

-- a place was found
cond-some : (b : Bool) (n i : ℕ) → cond b (Some n) None ≡ Some i → (b ≡ true) × (n ≡ i)
cond-some true n i e = (refl, cc)
cond-some false n i e = absurd (cc)

-- none was found
cond-none : (b : Bool) (n : ℕ) → cond b (Some n) None ≡ None → b ≡ false
cond-none true n e = absurd (cc)
cond-none false n e = refl

-- two names are equal or not
names_tell : (a b : List ℕ) → ((pointwise nat_eq a b ≡ true) × (a ≡ b)) ⊎ ((pointwise nat_eq a b ≡ false) × (a ≢ b))
names_tell a b = told (pointwise nat_eq a b) (bytes_eq-Decides a b)
  where
    told : (r : Bool) → Decides r (a ≡ b) → ((r ≡ true) × (a ≡ b)) ⊎ ((r ≡ false) × (a ≢ b))
    told true d = inl (refl, d.0 refl)
    told false d = inr (refl, λ e. absurd (let no : false ≡ true = d.1 e in cc))

-- a name is equal to itself
pub name_same : (name : List ℕ) → pointwise nat_eq name name ≡ true
name_same name = (bytes_eq-Decides name name).1 refl

-- a function set to its own value
pub set_named-own : {V : Type 0} (f : List ℕ → V) (name : List ℕ) (v : V) → f name ≡ v → f ≡ set_named f name v
set_named-own f name v own = fun_ext (λ q. elim (names_tell q name) [ inl same ↦ rw (same.0, same.1) own | inr differs ↦ rw differs.0 refl ])

-- what is found is what stands at its place
find-position : {X : Type 0} (p : X → Bool) (xs : List X) (i : ℕ) (d : X) → position p xs ≡ Some i → find p xs ≡ Some (get_or xs i d)
find-position p xs i d e =
    find_at p xs ∙ ap (λ k. slice_get xs k) (cond-some _ _ i e).1 ∙ slice_get-get_or xs i d (position-Some p xs i d e).0

-- nothing is found where there is no place
find-no_position : {X : Type 0} (p : X → Bool) (xs : List X) → position p xs ≡ None → find p xs ≡ None
find-no_position p xs e =
    let past : nat_lt (position_or_len p xs) (length xs) ≡ false = cond-none _ _ e in
    find_at p xs ∙ slice_get_past xs (position_or_len p xs) (grind (arith, nat_tests, past))

-- a change of an item that does not pass to one that does not pass
find-other : {X : Type 0} (p : X → Bool) (xs : List X) (i : ℕ) (y d : X) → p y ≡ false → p (get_or xs i d) ≡ false → find p (set xs i y) ≡ find p xs
find-other p [] i y d h k = refl
find-other p (x ∷ xs) zero y d h k = rw (h, k) refl
find-other p (x ∷ xs) (suc i) y d h k = ap (λ r. cond (p x) (Some x) r) (find-other p xs i y d h k)

-- an item behind others that do not pass
find-push : {X : Type 0} (p : X → Bool) (xs : List X) (y : X) → find p xs ≡ None → find p (xs ++ y ∷ []) ≡ cond (p y) (Some y) None
find-push p [] y e = refl
find-push p (x ∷ xs) y e = passes (p x) refl (find-push p xs y)
  where
    passes : (b : Bool) → p x ≡ b → (find p xs ≡ None → find p (xs ++ y ∷ []) ≡ cond (p y) (Some y) None)
        → cond (p x) (Some x) (find p (xs ++ y ∷ [])) ≡ cond (p y) (Some y) None
    passes true h later = absurd (let no : Some x ≡ None = rw h at e in cc)
    passes false h later = rw h (later (rw h at e))

-- an item that does not pass behind the others
find-push_other : {X : Type 0} (p : X → Bool) (xs : List X) (y : X) → p y ≡ false → find p (xs ++ y ∷ []) ≡ find p xs
find-push_other p [] y h = rw h refl
find-push_other p (x ∷ xs) y h = ap (λ r. cond (p x) (Some x) r) (find-push_other p xs y h)

pub part_of-found : {V : Type 0} (part : StoredFile → V) (none : V) (files : List StoredFile) (name : List ℕ) (i : ℕ) (d : StoredFile)
    → position (has_name name) files ≡ Some i → part_of part none files name ≡ part (get_or files i d)
part_of-found part none files name i d e = ap (λ found. option_map_or part found none) (find-position (has_name name) files i d e)

pub part_of-missing : {V : Type 0} (part : StoredFile → V) (none : V) (files : List StoredFile) (name : List ℕ)
    → position (has_name name) files ≡ None → part_of part none files name ≡ none
part_of-missing part none files name e = ap (λ found. option_map_or part found none) (find-no_position (has_name name) files e)

-- a file in the place of the one with its name
pub part_of-set : {V : Type 0} (part : StoredFile → V) (none : V) (files : List StoredFile) (name : List ℕ) (i : ℕ) (file : StoredFile)
    → position (has_name name) files ≡ Some i → has_name name file ≡ true → part_of part none (set files i file) ≡ set_named (part_of part none files) name (part file)
part_of-set part none files name i file e named = fun_ext (λ q. elim (names_tell q name) [ inl same ↦ here q same.0 same.1 | inr differs ↦ elsewhere q differs.0 differs.1 ])
  where
    there : (i < length files) × (has_name name (get_or files i file) ≡ true) × ((k : ℕ) → k < i → has_name name (get_or files k file) ≡ false)
    there = position-Some (has_name name) files i file e

    here : (q : List ℕ) → pointwise nat_eq q name ≡ true → q ≡ name → part_of part none (set files i file) q ≡ set_named (part_of part none files) name (part file) q
    here q test same =
        rw (test, same) (ap (λ found. option_map_or part found none) (find-set (has_name name) files i file (sym (cond-some _ _ i e).1) there.0 named))

    elsewhere : (q : List ℕ) → pointwise nat_eq q name ≡ false → q ≢ name → part_of part none (set files i file) q ≡ set_named (part_of part none files) name (part file) q
    elsewhere q test differs =
        let new : has_name q file ≡ false = ap (λ (n : List ℕ). pointwise nat_eq q n) (sym ((bytes_eq-Decides name file.name).0 named)) ∙ test in
        let old : has_name q (get_or files i file) ≡ false = ap (λ (n : List ℕ). pointwise nat_eq q n) (sym ((bytes_eq-Decides name (get_or files i file).name).0 there.1)) ∙ test in
        rw test (ap (λ found. option_map_or part found none) (find-other (has_name q) files i file file new old))

-- a file behind the others, where none had its name
pub part_of-push : {V : Type 0} (part : StoredFile → V) (none : V) (files : List StoredFile) (name : List ℕ) (file : StoredFile)
    → position (has_name name) files ≡ None → name ≡ file.name → part_of part none (files ++ file ∷ []) ≡ set_named (part_of part none files) name (part file)
part_of-push part none files name file e named = fun_ext (λ q. elim (names_tell q name) [ inl same ↦ here q same.0 same.1 | inr differs ↦ elsewhere q differs.0 ])
  where
    here : (q : List ℕ) → pointwise nat_eq q name ≡ true → q ≡ name → part_of part none (files ++ file ∷ []) q ≡ set_named (part_of part none files) name (part file) q
    here q test same =
        let passes : has_name name file ≡ true = (bytes_eq-Decides name file.name).1 named in
        let found : find (has_name name) (files ++ file ∷ []) ≡ Some file = find-push (has_name name) files file (find-no_position (has_name name) files e) ∙ rw passes refl in
        rw (test, same) (ap (λ r. option_map_or part r none) found)

    elsewhere : (q : List ℕ) → pointwise nat_eq q name ≡ false → part_of part none (files ++ file ∷ []) q ≡ set_named (part_of part none files) name (part file) q
    elsewhere q test =
        rw test (ap (λ r. option_map_or part r none) (find-push_other (has_name q) files file (ap (λ (n : List ℕ). pointwise nat_eq q n) (sym named) ∙ test)))

-- the file at the place has the name
named_found : (files : List StoredFile) (name : List ℕ) (i : ℕ) (old : StoredFile) → position (has_name name) files ≡ Some i → old ≡ get_or files i old → has_name name old ≡ true
named_found files name i old e at = subst (λ (file : StoredFile). has_name name file ≡ true) (sym at) (position-Some (has_name name) files i old e).1

-- a part of the named file, which was reached by its place
pub part_of-reached : {V : Type 0} (part : StoredFile → V) (none : V) (files : List StoredFile) (name : List ℕ) (i : ℕ) (old : StoredFile)
    → position (has_name name) files ≡ Some i → old ≡ get_or files i old → part_of part none files name ≡ part old
part_of-reached part none files name i old e at = part_of-found part none files name i old e ∙ sym (ap part at)

-- the named file with another content, and the same name
pub part_of-changed : {V : Type 0} (part : StoredFile → V) (none : V) (files : List StoredFile) (name : List ℕ) (i : ℕ) (old new : StoredFile)
    → position (has_name name) files ≡ Some i → old ≡ get_or files i old → new.name ≡ old.name → part_of part none (set files i new) ≡ set_named (part_of part none files) name (part new)
part_of-changed part none files name i old new e at same =
    part_of-set part none files name i new e (ap (λ (n : List ℕ). pointwise nat_eq name n) same ∙ named_found files name i old e at)

-- a part of it that is the same as before
pub part_of-kept : {V : Type 0} (part : StoredFile → V) (none : V) (files : List StoredFile) (name : List ℕ) (i : ℕ) (old new : StoredFile)
    → position (has_name name) files ≡ Some i → old ≡ get_or files i old → new.name ≡ old.name → part new ≡ part old → part_of part none (set files i new) ≡ part_of part none files
part_of-kept part none files name i old new e at same kept =
    part_of-changed part none files name i old new e at same
    ∙ sym (set_named-own (part_of part none files) name (part new) (part_of-reached part none files name i old e at ∙ sym kept))

-- whether a file has a name, once one is set up
pub there-placed : (files files' : List StoredFile) (name : List ℕ) (file : StoredFile) → setups_of files' ≡ set_named (setups_of files) name (setup_of file)
    → (λ q. (setups_of files' q).there) ≡ set_named (λ q. (setups_of files q).there) name true
there-placed files files' name file same =
    fun_ext (λ q. ap (λ (setups : List ℕ → Setup). (setups q).there) same ∙ elim (names_tell q name) [ inl here ↦ rw here.0 refl | inr differs ↦ rw differs.0 refl ])

pub ruleset shelf_rules = (part_of-found, part_of-missing)
