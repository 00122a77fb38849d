-- The parts of a row, and the row of a section.
use Rattle.std.proofs.Common.{◌≡◌, ℕ, zero, suc, ◌+◌, ◌<◌, ◌≤◌, List, [], ◌∷◌, ◌++◌, drop, length, take, slice_get, position, Option, Some, None, refl, ap, sym, ◌∙◌, arith, add-one, zero-add, suc-add}
use Rattle.std.proofs.Math.Seq.{drop-cons}
use Rattle.std.proofs.lemmas.List.{take_more}
use Rattle.std.proofs.lemmas.List.Quantifiers.{position-Some}
use Rattle.std.specs.Option.{option_map}
use Rattle.std.proofs.lemmas.Option.{slice_get_within, get_or_from_slice_get}
use Rattle.btf_types.specs.declared.types.TypeRow.{TypeRow}
use Rattle.btf_types.specs.TypeTable.{TypeTable, is_section_named, section_vars}
use Rattle.run_config.specs.Variables.{parts_of}

pub slice_get-take : {A : Type 0} (xs : List A) (count place : ℕ) → place < count → slice_get (take count xs) place ≡ slice_get xs place
slice_get-take xs zero place h = absurd (omega arith)
slice_get-take [] (suc count) place h = refl
slice_get-take (x ∷ xs) (suc count) zero h = refl
slice_get-take (x ∷ xs) (suc count) (suc place) h = slice_get-take xs count place (omega arith)

slice_get-drop : {A : Type 0} (xs : List A) (first place : ℕ) → slice_get (drop first xs) place ≡ slice_get xs (first + place)
slice_get-drop xs zero place = ap (λ k. slice_get xs k) (sym (zero-add place))
slice_get-drop [] (suc first) place = refl
slice_get-drop (x ∷ xs) (suc first) place = slice_get-drop xs first place ∙ ap (λ k. slice_get (x ∷ xs) k) (sym (suc-add first place))

-- what stands at a place of some of a list
pub slice_get-part : {A : Type 0} (xs : List A) (first count place : ℕ) → place < count → slice_get (take count (drop first xs)) place ≡ slice_get xs (first + place)
slice_get-part xs first count place h = slice_get-take (drop first xs) count place h ∙ slice_get-drop xs first place

-- the front of a list grows by what stands at a place
pub take-next : {A : Type 0} (xs : List A) (place : ℕ) (x : A) → slice_get xs place ≡ Some x → take (place + 1) xs ≡ take place xs ++ x ∷ []
take-next xs place x h = take_more xs place x (slice_get_within xs place x h) ∙ ap (λ y. take place xs ++ y ∷ []) (get_or_from_slice_get xs place x x h)

-- what is left begins with what stands at a place
pub drop-next : {A : Type 0} (xs : List A) (place : ℕ) (x : A) → slice_get xs place ≡ Some x → drop place xs ≡ x ∷ drop (place + 1) xs
drop-next xs place x h = drop-cons xs place x (slice_get_within xs place x h) ∙ rw (← add-one, get_or_from_slice_get xs place x x h) refl

pub ruleset part_of_row = (slice_get-part, take-next, drop-next)

next_some : (o : Option ℕ) (n : ℕ) → option_map (λ k. k + 1) o ≡ Some n → (k : ℕ) × (o ≡ Some k) × (n ≡ k + 1)
next_some None n h = cc
next_some (Some k) n h = (k, refl, cc)

-- a section's number is that of a type
pub section_number : (types : TypeTable) (name : List ℕ) (place : ℕ) → section_vars types name ≡ Some place → (1 ≤ place) × (place ≤ length types.rows)
section_number types name place h =
    let test = is_section_named types name in
    let any : TypeRow = record { kind = 0; name = 0; size_or_target = 0; first = 0; count = 0 } in
    let at = next_some (position test types.rows) place h in
    let within = position-Some test types.rows at.0 any at.1 in
    (omega (arith, at.2), omega (arith, at.2, within.0))

pub ruleset section_in_rows = section_number

take-again : {A : Type 0} (count : ℕ) (xs : List A) → take count (take count xs) ≡ take count xs
take-again zero xs = refl
take-again (suc count) [] = refl
take-again (suc count) (x ∷ xs) = ap (λ rest. x ∷ rest) (take-again count xs)

drop-taken : {A : Type 0} (count : ℕ) (xs : List A) → drop count (take count xs) ≡ []
drop-taken zero xs = refl
drop-taken (suc count) [] = refl
drop-taken (suc count) (x ∷ xs) = drop-taken count xs

-- a row has so many parts
pub take-parts : (types : TypeTable) (row : TypeRow) → take row.count (parts_of types row) ≡ parts_of types row
unfolding parts_of
take-parts types row = take-again row.count (drop row.first types.parts)

pub drop-parts : (types : TypeTable) (row : TypeRow) → drop row.count (parts_of types row) ≡ []
unfolding parts_of
drop-parts types row = drop-taken row.count (drop row.first types.parts)
