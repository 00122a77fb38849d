-- Programs by their numbers.
use Rattle.std.proofs.Common.{◌≡◌, ℕ, zero, suc, ◌+◌, ◌-◌, ◌<◌, ◌≤◌, List, [], ◌∷◌, ◌++◌, length, take, drop, refl, sym, ap, subst, ◌∙◌, Some, slice_get, append_assoc, length-append, add-one, arith}
use Rattle.std.specs.Prelude.{All, slice_index_or}
use Rattle.std.proofs.lemmas.Grind.{flat_map-append}
use Rattle.std.proofs.lemmas.List.{append-nil}
use Rattle.std.proofs.lemmas.List.Elements.{All-append}
use Rattle.std.proofs.lemmas.Option.{get_or_from_slice_get, slice_get_within}
use Rattle.std.proofs.Math.Seq.{drop-cons}
use Rattle.object_load.specs.Load.{IsRunnable}
use Rattle.object_load.specs.declared.program.Program.{Program}
use Rattle.xdp_state.specs.Library.{IsSound, program_at, programs_in, programs_of}
use Rattle.xdp_state.specs.declared.library.Library.{Library}
use Rattle.xdp_state.specs.declared.library.ObjectRow.{ObjectRow}

pub get-append_left : {A : Type 0} (xs ys : List A) (place : ℕ) → place < length xs → slice_get (xs ++ ys) place ≡ slice_get xs place
get-append_left [] ys place below = absurd (omega arith)
get-append_left (x ∷ xs) ys zero below = refl
get-append_left (x ∷ xs) ys (suc place) below = get-append_left xs ys place (omega arith)

pub get-append_right : {A : Type 0} (xs ys : List A) (place : ℕ) → length xs ≤ place → slice_get (xs ++ ys) place ≡ slice_get ys (place - length xs)
get-append_right [] ys place above = ap (slice_get ys) (let none : place ≡ place - 0 = omega arith in none)
get-append_right (x ∷ xs) ys zero above = absurd (omega arith)
get-append_right (x ∷ xs) ys (suc place) above =
    let less : place - length xs ≡ suc place - length (x ∷ xs) = omega arith in
    get-append_right xs ys place (omega arith) ∙ ap (slice_get ys) less

-- the programs of the first objects, of one and of the rest
pub programs_of-split : (objects : List ObjectRow) (place : ℕ) (object : ObjectRow) → slice_get objects place ≡ Some object → programs_of objects ≡ programs_of (take place objects) ++ (programs_in object.loaded ++ programs_of (drop (suc place) objects))
programs_of-split [] place object is = absurd cc
programs_of-split (o ∷ objects) zero object is = let same : o ≡ object = cc in ap (λ (o : ObjectRow). programs_in o.loaded ++ programs_of objects) same
programs_of-split (o ∷ objects) (suc place) object is =
    ap (λ ps. programs_in o.loaded ++ ps) (programs_of-split objects place object is)
    ∙ sym (append_assoc (programs_in o.loaded) (programs_of (take place objects)) (programs_in object.loaded ++ programs_of (drop (suc place) objects)))

-- a program by its number
pub program-numbered : (objects : List ObjectRow) (object place : ℕ) (row : ObjectRow) → slice_get objects object ≡ Some row → place < length (programs_in row.loaded)
    → slice_get (programs_of objects) (length (programs_of (take object objects)) + place) ≡ slice_get (programs_in row.loaded) place
program-numbered objects object place row is below =
    let before = programs_of (take object objects) in
    let here = programs_in row.loaded in
    let after = programs_of (drop (suc object) objects) in
    let behind : length before + place - length before ≡ place = omega arith in
    ap (λ ps. slice_get ps (length before + place)) (programs_of-split objects object row is)
    ∙ get-append_right before (here ++ after) (length before + place) (omega arith)
    ∙ ap (slice_get (here ++ after)) behind
    ∙ get-append_left here after place below

-- a program's number is below how many there are
pub number_below : (objects : List ObjectRow) (object place : ℕ) (row : ObjectRow) → slice_get objects object ≡ Some row → place < length (programs_in row.loaded) → length (programs_of (take object objects)) + place < length (programs_of objects)
number_below objects object place row is below =
    let all = ap length (programs_of-split objects object row is) in
    let first = length-append (programs_of (take object objects)) (programs_in row.loaded ++ programs_of (drop (suc object) objects)) in
    let second = length-append (programs_in row.loaded) (programs_of (drop (suc object) objects)) in
    omega (arith, all, first, second)

-- the programs of objects from a place on
pub programs_of-drop : (objects : List ObjectRow) (place : ℕ) (object : ObjectRow) → place < length objects → object ≡ slice_index_or objects place object → programs_of (drop place objects) ≡ programs_in object.loaded ++ programs_of (drop (place + 1) objects)
programs_of-drop objects place object below is = rw (drop-cons objects place object below, ← is, add-one) refl

-- a program of this object, and one behind it
pub program-here : (objects : List ObjectRow) (place : ℕ) (object : ObjectRow) (number : ℕ) → place < length objects → object ≡ slice_index_or objects place object → number < length (programs_in object.loaded)
    → slice_get (programs_of (drop place objects)) number ≡ slice_get (programs_in object.loaded) number
program-here objects place object number below is within =
    ap (λ ps. slice_get ps number) (programs_of-drop objects place object below is)
    ∙ get-append_left (programs_in object.loaded) (programs_of (drop (place + 1) objects)) number within

pub program-behind : (objects : List ObjectRow) (place : ℕ) (object : ObjectRow) (number : ℕ) → place < length objects → object ≡ slice_index_or objects place object → length (programs_in object.loaded) ≤ number
    → slice_get (programs_of (drop place objects)) number ≡ slice_get (programs_of (drop (place + 1) objects)) (number - length (programs_in object.loaded))
program-behind objects place object number below is past =
    ap (λ ps. slice_get ps number) (programs_of-drop objects place object below is)
    ∙ get-append_right (programs_in object.loaded) (programs_of (drop (place + 1) objects)) number past

-- the first objects with one more
pub programs_of-take : (objects : List ObjectRow) (place : ℕ) (object : ObjectRow) → slice_get objects place ≡ Some object → programs_of (take (suc place) objects) ≡ programs_of (take place objects) ++ programs_in object.loaded
programs_of-take [] place object is = absurd cc
programs_of-take (o ∷ objects) zero object is = let same : o ≡ object = cc in rw same (append-nil (programs_in object.loaded))
programs_of-take (o ∷ objects) (suc place) object is =
    ap (λ ps. programs_in o.loaded ++ ps) (programs_of-take objects place object is)
    ∙ sym (append_assoc (programs_in o.loaded) (programs_of (take place objects)) (programs_in object.loaded))

-- the programs of the first objects, and of one behind them, are among all
pub few_taken : (objects : List ObjectRow) (first : ℕ) → length (programs_of (take first objects)) ≤ length (programs_of objects)
few_taken [] zero = omega arith
few_taken [] (suc first) = omega arith
few_taken (o ∷ objects) zero = omega arith
few_taken (o ∷ objects) (suc first) =
    let some = length-append (programs_in o.loaded) (programs_of (take first objects)) in
    let all = length-append (programs_in o.loaded) (programs_of objects) in
    omega (arith, some, all, few_taken objects first)

pub with_next : (objects : List ObjectRow) (place : ℕ) (object : ObjectRow) → slice_get objects place ≡ Some object → length (programs_of (take place objects)) + length (programs_in object.loaded) ≤ length (programs_of objects)
with_next objects place object is =
    let next = ap length (programs_of-take objects place object is) in
    let both = length-append (programs_of (take place objects)) (programs_in object.loaded) in
    omega (arith, next, both, few_taken objects (suc place))

-- a library with one more object
pub sound-push : (library : Library) (object : ObjectRow) → IsSound library → length (programs_of library.objects) + length (programs_in object.loaded) ≤ 4294967295 → All IsRunnable (programs_in object.loaded)
    → IsSound (record library { objects = library.objects ++ object ∷ [] })
sound-push library object sound few runnable =
    let old = programs_of library.objects in
    let new = programs_in object.loaded in
    let all : programs_of (library.objects ++ object ∷ []) ≡ old ++ new =
    flat_map-append (λ object. programs_in object.loaded) library.objects (object ∷ []) ∙ ap (λ ps. old ++ ps) (append-nil new) in
    let long : length (programs_of (library.objects ++ object ∷ [])) ≡ length old + length new = ap length all ∙ length-append old new in
    record {
      count = omega (arith, long, few);
      runnable = rw all (All-append IsRunnable old new sound.runnable runnable);
    }

-- the program of a number can be run
pub runnable_at : (library : Library) (number : ℕ) (program : Program) → IsSound library → program_at library number ≡ Some program → IsRunnable program
runnable_at library number program sound is =
    let programs = programs_of library.objects in
    subst IsRunnable (get_or_from_slice_get programs number program program is) (sound.runnable number program (slice_get_within programs number program is))
