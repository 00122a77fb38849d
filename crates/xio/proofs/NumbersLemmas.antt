-- A part of the rows, once a row is read or changed.
use Rattle.std.proofs.Common.{◌≡◌, ◌≢◌, ℕ, ◌+◌, ◌<◌, List, [], ◌∷◌, ◌++◌, length, get_or, get_or-set_same, Some, refl, sym, subst, ◌∙◌, ap, inl, inr, zero, suc}
use Rattle.std.proofs.Math.ListN.{set, length-set}
use Rattle.std.specs.Prelude.{slice_get}
use Rattle.std.specs.Option.{option_map_or}
use Rattle.std.proofs.lemmas.Bool.Decides.{eqb_tells}
use Rattle.std.proofs.lemmas.Option.{slice_get_cases, slice_get_read}
use Rattle.std.proofs.lemmas.List.{length-map}
use mathlib.Core.Path.{fun_ext}
use Rattle.xio.specs.Handles.{Closed, set_at}
use Rattle.xio.specs.Numbers.{part_at, handle_at, place_at, call_at, names_asked}
use Rattle.xio.specs.declared.memory.ask.Ask.{Ask}
use Rattle.xio.specs.declared.memory.entry.Entry.{Entry}

-- a number that is open was given
pub given_below : (entries : List Entry) (n : ℕ) → handle_at entries n ≢ Closed → n < length entries
given_below entries n held = elim (slice_get_cases entries n).1 [ inl row ↦ row.1 | inr past ↦ absurd (held (rw past.1 refl)) ]

-- a part of a row that was read
pub part_at-read : {A V : Type 0} (part : A → V) (none : V) (rows : List A) (i : ℕ) (row : A) → i < length rows → row ≡ get_or rows i row → part_at part none rows i ≡ part row
part_at-read part none rows i row within at = ap (λ found. option_map_or part found none) (slice_get_read rows (length rows) i row refl within at)

-- every other row stays
slice_get-set_other : {A : Type 0} (rows : List A) (i : ℕ) (row : A) (m : ℕ) → m ≢ i → slice_get (set rows i row) m ≡ slice_get rows m
slice_get-set_other [] i row m other = refl
slice_get-set_other (x ∷ rows) zero row zero other = absurd (other refl)
slice_get-set_other (x ∷ rows) zero row (suc m) other = refl
slice_get-set_other (x ∷ rows) (suc i) row zero other = refl
slice_get-set_other (x ∷ rows) (suc i) row (suc m) other = slice_get-set_other rows i row m (λ e. other (ap suc e))

-- a row in the place of another
part_at-set : {A V : Type 0} (part : A → V) (none : V) (rows : List A) (i : ℕ) (row : A) → i < length rows → part_at part none (set rows i row) ≡ set_at (part_at part none rows) i (part row)
part_at-set part none rows i row within = fun_ext (λ m. elim (eqb_tells m i) [ inl here ↦ rw (here.0, here.1) same | inr differs ↦ rw differs.0 (other m differs.1) ])
  where
    same : part_at part none (set rows i row) i ≡ part row
    same = part_at-read part none (set rows i row) i row (rw length-set within) (sym (get_or-set_same rows i row row within))

    other : (m : ℕ) → m ≢ i → part_at part none (set rows i row) m ≡ part_at part none rows m
    other m differs = ap (λ found. option_map_or part found none) (slice_get-set_other rows i row m differs)

-- an opened file that was taken further
pub place_at-moved : (asks : List Ask) (k i count : ℕ) (old new : Ask) → k ≡ i → i < length asks → old ≡ get_or asks k old → new.place ≡ old.place + count
    → place_at (set asks k new) ≡ set_at (place_at asks) i (place_at asks i + count)
place_at-moved asks k i count old new same within at moved =
    let below : k < length asks = subst (λ n. n < length asks) (sym same) within in
    let place : place_at asks k ≡ old.place = part_at-read (λ ask. ask.place) 0 asks k old below at in
    part_at-set (λ ask. ask.place) 0 asks k new below ∙ ap (λ n. set_at (place_at asks) k n) (moved ∙ ap (λ n. n + count) (sym place))
    ∙ ap (λ n. set_at (place_at asks) n (place_at asks n + count)) same

-- the row behind the last one, and every other
slice_get-push : {A : Type 0} (rows : List A) (row : A) → slice_get (rows ++ row ∷ []) (length rows) ≡ Some row
slice_get-push [] row = refl
slice_get-push (x ∷ rows) row = slice_get-push rows row

slice_get-push_other : {A : Type 0} (rows : List A) (row : A) (m : ℕ) → m ≢ length rows → slice_get (rows ++ row ∷ []) m ≡ slice_get rows m
slice_get-push_other [] row zero other = absurd (other refl)
slice_get-push_other [] row (suc m) other = refl
slice_get-push_other (x ∷ rows) row zero other = refl
slice_get-push_other (x ∷ rows) row (suc m) other = slice_get-push_other rows row m (λ e. other (ap suc e))

-- one more row
pub part_at-push : {A V : Type 0} (part : A → V) (none : V) (rows : List A) (row : A) → part_at part none (rows ++ row ∷ []) ≡ set_at (part_at part none rows) (length rows) (part row)
part_at-push part none rows row = fun_ext (λ m. elim (eqb_tells m (length rows)) [ inl here ↦ rw (here.0, here.1) same | inr differs ↦ rw differs.0 (other m differs.1) ])
  where
    same : part_at part none (rows ++ row ∷ []) (length rows) ≡ part row
    same = ap (λ found. option_map_or part found none) (slice_get-push rows row)

    other : (m : ℕ) → m ≢ length rows → part_at part none (rows ++ row ∷ []) m ≡ part_at part none rows m
    other m differs = ap (λ found. option_map_or part found none) (slice_get-push_other rows row m differs)

-- one more number, whose call is the last
pub call_at-push : (entries : List Entry) (asks : List Ask) (entry : Entry) (n : ℕ) → n ≡ length entries → entry.call ≡ length asks
    → call_at (entries ++ entry ∷ []) ≡ set_at (call_at entries) n (length (names_asked asks))
call_at-push entries asks entry n at last =
    part_at-push (λ e. e.call) 0 entries entry ∙ ap (λ k. set_at (call_at entries) (length entries) k) (last ∙ sym (length-map asks (λ ask. ask.name)))
    ∙ ap (λ k. set_at (call_at entries) k (length (names_asked asks))) (sym at)
