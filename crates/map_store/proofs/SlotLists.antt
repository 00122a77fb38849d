-- Slots as lists made of buffers.
use Rattle.std.proofs.Common.{◌≡◌, ℕ, ◌<◌, inl, inr, Bool, true, false, List, set, length, get_or, position, Option, Some, None, refl, sym, ap, ◌∙◌, arith}
use Rattle.std.proofs.lemmas.Bool.{cases_eq, lt-ltb, le-ltb}
use Rattle.std.proofs.lemmas.List.{length-set, get_or-set_same, get_or-set_other, ext_get_or}
use Rattle.std.proofs.lemmas.List.FromFn.{length-map-range_with_len, get_or-map-range_with_len}
use Rattle.std.proofs.lemmas.List.Sums.{position_or_len_is}
use Rattle.std.specs.List.{position_or_len}
use Rattle.map_store.specs.Slots.{Entry}
use Rattle.map_store.specs.SlotsView.{slot_in, slots_in, IsFirst}

pub length-slots_in : (key_size value_size : ℕ) (keys values : List ℕ) (taken : List Bool) → length (slots_in key_size value_size keys values taken) ≡ length taken
unfolding slots_in
length-slots_in key_size value_size keys values taken = length-map-range_with_len (slot_in key_size value_size keys values taken) 0 (length taken)

pub get-slots_in : (key_size value_size : ℕ) (keys values : List ℕ) (taken : List Bool) (place : ℕ) → place < length taken
    → get_or (slots_in key_size value_size keys values taken) place None ≡ slot_in key_size value_size keys values taken place
unfolding slots_in
get-slots_in key_size value_size keys values taken place below = get_or-map-range_with_len (slot_in key_size value_size keys values taken) 0 (length taken) place place None below (omega arith)

-- the lengths that goals ask for
pub ruleset lengths = (length-slots_in)

-- new buffers that change one slot alone
pub slots_in-set : (key_size value_size : ℕ) (keys values keys' values' : List ℕ) (taken taken' : List Bool) (place : ℕ) (slot : Option Entry)
    → length taken' ≡ length taken → place < length taken
    → slot_in key_size value_size keys' values' taken' place ≡ slot
    → ((other : ℕ) → other < length taken → (other ≡ place → ⊥) → slot_in key_size value_size keys' values' taken' other ≡ slot_in key_size value_size keys values taken other)
    → slots_in key_size value_size keys' values' taken' ≡ set (slots_in key_size value_size keys values taken) place slot
slots_in-set k v keys values keys' values' taken taken' place slot long within here others =
    let old : List (Option Entry) = slots_in k v keys values taken in
    let new : List (Option Entry) = slots_in k v keys' values' taken' in
    let lo : length old ≡ length taken = length-slots_in k v keys values taken in
    let ln : length new ≡ length taken' = length-slots_in k v keys' values' taken' in
    let ls : length (set old place slot) ≡ length old = length-set old place slot in
    ext_get_or None new (set old place slot) (omega arith) (λ i below.
    let inside : i < length taken = omega arith in
    get-slots_in k v keys' values' taken' i (omega arith) ∙ elim (cases_eq i place) [
      | inl same ↦ rw same (here ∙ sym (get_or-set_same old place slot None (omega arith)))
      | inr differs ↦ others i inside differs ∙ sym (get-slots_in k v keys values taken i inside) ∙ sym (get_or-set_other old place i slot None differs)
    ])

-- the first place that passes, of a list and of places
pub position-first : {X : Type 0} (p : X → Bool) (xs : List X) (i : ℕ) (d : X) → i < length xs → p (get_or xs i d) ≡ true → ((k : ℕ) → k < i → p (get_or xs k d) ≡ false) → position p xs ≡ Some i
position-first p xs i d within found first =
    let e : position_or_len p xs ≡ i = position_or_len_is p xs i d (omega arith) first (λ _. found) in
    rw (e, lt-ltb i (length xs) within) refl

pub position-nowhere : {X : Type 0} (p : X → Bool) (xs : List X) (d : X) → ((k : ℕ) → k < length xs → p (get_or xs k d) ≡ false) → position p xs ≡ None
position-nowhere p xs d none =
    let e : position_or_len p xs ≡ length xs = position_or_len_is p xs (length xs) d (omega arith) none (λ below. absurd (omega arith)) in
    rw (e, le-ltb (length xs) (length xs) (omega arith)) refl

pub position-slots_in : (p : Option Entry → Bool) (passes : ℕ → Bool) (key_size value_size : ℕ) (keys values : List ℕ) (taken : List Bool) (result : Option ℕ)
    → ((k : ℕ) → k < length taken → passes k ≡ p (slot_in key_size value_size keys values taken k))
    → IsFirst passes (length taken) result
    → position p (slots_in key_size value_size keys values taken) ≡ result
position-slots_in p passes k v keys values taken None same none =
    let ls : length (slots_in k v keys values taken) ≡ length taken = length-slots_in k v keys values taken in
    position-nowhere p (slots_in k v keys values taken) None (λ i below.
    let inside : i < length taken = omega arith in
    ap p (get-slots_in k v keys values taken i inside) ∙ sym (same i inside) ∙ none i inside)
position-slots_in p passes k v keys values taken (Some place) same found =
    let ls : length (slots_in k v keys values taken) ≡ length taken = length-slots_in k v keys values taken in
    let inside : place < length taken = found.within in
    position-first p (slots_in k v keys values taken) place None (omega arith)
    (ap p (get-slots_in k v keys values taken place inside) ∙ sym (same place inside) ∙ found.found)
    (λ i below.
    let under : i < length taken = omega arith in
    ap p (get-slots_in k v keys values taken i under) ∙ sym (same i under) ∙ found.first i below)
