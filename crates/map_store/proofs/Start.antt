-- What buffers hold at first.
use Rattle.std.proofs.Common.{◌≡◌, ℕ, ◌+◌, ◌-◌, ◌*◌, ◌<◌, ◌≤◌, inl, inr, Bool, true, false, not, nat_le, List, [], ◌∷◌, ◌++◌, map, find, replicate, length, get_or, Option, Some, None, refl, sym, ap, ◌∙◌, arith}
use Rattle.std.proofs.lemmas.Bool.{cases_lt, cases_Bool, and_parts, leb-true, eqb-true, not-false}
use Rattle.std.proofs.lemmas.Grind.{same_number_lists}
use Rattle.std.proofs.lemmas.List.{get_or_append_left, get_or-append_right, get_or-replicate, length-replicate, length-append, ext_get_or}
use Rattle.std.proofs.lemmas.List.FromFn.{length-map-range_with_len, get_or-map-range_with_len}
use Rattle.std.proofs.lemmas.Nat.{row_fits}
use Rattle.std.specs.List.{range_with_len}
use Rattle.std.specs.Option.{option_map}
use Rattle.byteorder.specs.Endian.{little_bytes}
use Rattle.flat_memory.specs.Numbers.{with_bytes}
use Rattle.map_store.specs.declared.spec.MapKind.{MapKind}
use Rattle.map_store.specs.declared.spec.MapKind.TheVariants.{Hash, Array, PercpuHash, PercpuArray}
use Rattle.map_store.specs.declared.spec.MapSpec.{MapSpec}
use Rattle.map_store.specs.Spec.{is_between, has_key_size, spec_rule, rounded}
use Rattle.map_store.specs.Initial.{IsMakeable, first_value, first_entry, first_slots}
use Rattle.map_store.specs.Slots.{Entry, is_array}
use Rattle.map_store.specs.Occupied.{is_taken}
use Rattle.map_store.specs.SlotsView.{part, slots_in}
use Rattle.map_store.proofs.Parts.{length-part, index-part, part-here}
use Rattle.map_store.proofs.SlotLists.{length-slots_in, get-slots_in}
use Rattle.map_store.proofs.Writes.{slot_in-taken, slot_in-empty}

-- parts of a list that grew
pub part-append_left : (size step : ℕ) (xs ys : List ℕ) (place : ℕ) → place * step + size ≤ length xs → part size step (xs ++ ys) place ≡ part size step xs place
part-append_left size step xs ys place fits =
    let long : length (xs ++ ys) ≡ length xs + length ys = length-append xs ys in
    let lp : length (part size step (xs ++ ys) place) ≡ size = length-part size step (xs ++ ys) place (omega arith) in
    same_number_lists (part size step (xs ++ ys) place) (part size step xs place) (lp ∙ sym (length-part size step xs place fits)) (λ k below.
    index-part size step (xs ++ ys) place k (omega arith)
    ∙ get_or_append_left xs ys 0 (place * step + k) (omega arith)
    ∙ sym (index-part size step xs place k (omega arith)))

pub part-append_here : (size step : ℕ) (xs ys : List ℕ) (place : ℕ) → length xs ≡ place * step → length ys ≡ size → part size step (xs ++ ys) place ≡ ys
part-append_here size step xs ys place front long =
    let sum : length (xs ++ ys) ≡ length xs + length ys = length-append xs ys in
    let lp : length (part size step (xs ++ ys) place) ≡ size = length-part size step (xs ++ ys) place (omega arith) in
    same_number_lists (part size step (xs ++ ys) place) ys (lp ∙ sym long) (λ k below.
    let off : place * step + k - place * step ≡ k = omega arith in
    index-part size step (xs ++ ys) place k (omega arith)
    ∙ get_or-append_right xs ys (place * step) (place * step + k) 0 front (omega arith)
    ∙ ap (λ (j : ℕ). get_or ys j 0) off)

-- the keys of an array, one more
pub array_keys-more : (keys more : List ℕ) (place : ℕ) → length keys ≡ place * 4 → more ≡ little_bytes 4 place → length more ≡ 4
    → ((k : ℕ) → k < place → part 4 4 keys k ≡ little_bytes 4 k)
    → (k : ℕ) → k < place + 1 → part 4 4 (keys ++ more) k ≡ little_bytes 4 k
array_keys-more keys more place long is four before k below = elim (cases_lt k place) [
  | inl under ↦ let room : k * 4 + 4 ≤ place * 4 = row_fits k 4 place 4 under (omega arith) in part-append_left 4 4 keys more k (omega arith) ∙ before k under
  | inr at_end ↦
      let same : k ≡ place = omega arith in
      rw same (part-append_here 4 4 keys more place long four ∙ is)
]

-- what the rules give
pub record AreInRange (spec : MapSpec) : Type 0 where
  pub key : has_key_size spec.kind spec.key_size ≡ true
  pub value_least : 1 ≤ spec.value_size
  pub value_most : spec.value_size ≤ 65536
  pub entries_least : 1 ≤ spec.max_entries
  pub entries_most : spec.max_entries ≤ 1048576

none_broken : (a b c : Bool) → option_map (λ (r : ℕ × Bool). r.0) (find (λ (r : ℕ × Bool). r.1) ((5, false) ∷ (6, a) ∷ (7, b) ∷ (8, c) ∷ [])) ≡ None → (a ≡ false) × (b ≡ false) × (c ≡ false)
none_broken true b c e = cc
none_broken false true c e = cc
none_broken false false true e = cc
none_broken false false false e = (refl, refl, refl)

between : (least most n : ℕ) → not (is_between least most n) ≡ false → (least ≤ n) × (n ≤ most)
between least most n e =
    let both : (nat_le least n ≡ true) × (nat_le n most ≡ true) = and_parts (nat_le least n) (nat_le n most) (not-false (is_between least most n) e) in
    (leb-true least n both.0, leb-true n most both.1)

pub in_range : (spec : MapSpec) → spec_rule spec ≡ None → AreInRange spec
unfolding spec_rule
in_range spec none =
    let broken : (not (has_key_size spec.kind spec.key_size) ≡ false) × (not (is_between 1 65536 spec.value_size) ≡ false) × (not (is_between 1 1048576 spec.max_entries) ≡ false) = none_broken _ _ _ none in
    let value : (1 ≤ spec.value_size) × (spec.value_size ≤ 65536) = between 1 65536 spec.value_size broken.1 in
    let entries : (1 ≤ spec.max_entries) × (spec.max_entries ≤ 1048576) = between 1 1048576 spec.max_entries broken.2 in
    record { key = not-false (has_key_size spec.kind spec.key_size) broken.0; value_least = value.0; value_most = value.1; entries_least = entries.0; entries_most = entries.1 }

-- no kind has keys of more than 512 bytes
pub key_most : (kind : MapKind) (size : ℕ) → has_key_size kind size ≡ true → size ≤ 512
key_most Array size has = omega (arith, eqb-true size 4 has)
key_most PercpuArray size has = omega (arith, eqb-true size 4 has)
key_most Hash size has = leb-true size 512 (and_parts (nat_le 1 size) (nat_le size 512) has).1
key_most PercpuHash size has = leb-true size 512 (and_parts (nat_le 1 size) (nat_le size 512) has).1

-- an array has keys of 4 bytes
pub four_bytes : (kind : MapKind) (size : ℕ) → has_key_size kind size ≡ true → is_array kind ≡ true → size ≡ 4
four_bytes Array size has array = eqb-true size 4 has
four_bytes PercpuArray size has array = eqb-true size 4 has
four_bytes Hash size has array = cc
four_bytes PercpuHash size has array = cc

-- a size and its rounding
pub rounded_above : (size : ℕ) → size ≤ rounded size
unfolding rounded
rounded_above size = omega arith

-- the initial content as a list
value_given : (size : ℕ) (initial : List ℕ) → 1 ≤ length initial → (spec : MapSpec) → spec.initial ≡ initial → first_value spec ≡ initial
value_given size [] long spec is = absurd (omega arith)
value_given size (x ∷ xs) long spec is = rw is refl

value_zero : (spec : MapSpec) → spec.initial ≡ [] → first_value spec ≡ replicate spec.value_size 0
value_zero spec is = rw is refl

part-replicate : (size step n place : ℕ) → place * step + size ≤ n → part size step (replicate n 0) place ≡ replicate size 0
part-replicate size step n place fits =
    let ln : length (replicate {A = ℕ} n 0) ≡ n = length-replicate n 0 in
    let lp : length (part size step (replicate n 0) place) ≡ size = length-part size step (replicate n 0) place (omega arith) in
    same_number_lists (part size step (replicate n 0) place) (replicate size 0) (lp ∙ sym (length-replicate size 0)) (λ k below.
    index-part size step (replicate n 0) place k (omega arith)
    ∙ get_or-replicate n (place * step + k) 0 0 (omega arith)
    ∙ sym (get_or-replicate size k 0 0 (omega arith)))

with_nothing : (bytes : List ℕ) → with_bytes bytes 0 [] ≡ bytes
unfolding with_bytes
with_nothing bytes = refl

-- the values at first
pub first_parts : (spec : MapSpec) (place : ℕ) → IsMakeable spec → place < spec.max_entries → part spec.value_size (rounded spec.value_size) (with_bytes (replicate (spec.max_entries * rounded spec.value_size) 0) 0 spec.initial) place ≡ first_value spec
first_parts spec place makeable below =
    let step : spec.value_size ≤ rounded spec.value_size = rounded_above spec.value_size in
    let room : place * rounded spec.value_size + rounded spec.value_size ≤ spec.max_entries * rounded spec.value_size = row_fits place (rounded spec.value_size) spec.max_entries (rounded spec.value_size) below (omega arith) in
    elim makeable.initial [
      | inl none ↦
          let zeros : List ℕ = replicate (spec.max_entries * rounded spec.value_size) 0 in
          let all : part spec.value_size (rounded spec.value_size) zeros place ≡ replicate spec.value_size 0 = part-replicate spec.value_size (rounded spec.value_size) (spec.max_entries * rounded spec.value_size) place (omega arith) in
          let bytes : with_bytes zeros 0 spec.initial ≡ zeros = ap (with_bytes zeros 0) none ∙ with_nothing zeros in
          ap (λ (xs : List ℕ). part spec.value_size (rounded spec.value_size) xs place) bytes ∙ all ∙ sym (value_zero spec none)
      | inr given ↦
          let one : spec.max_entries ≡ 1 = given.1 in
          let long : length spec.initial ≡ spec.value_size = given.2 in
          let first : place ≡ 0 = omega arith in
          let some : 1 ≤ spec.value_size = (in_range spec makeable.rules).value_least in
          let zeros : List ℕ = replicate (spec.max_entries * rounded spec.value_size) 0 in
          let lz : length zeros ≡ spec.max_entries * rounded spec.value_size = length-replicate (spec.max_entries * rounded spec.value_size) 0 in
          let fits : 0 * rounded spec.value_size + spec.value_size ≤ length zeros = omega arith in
          let here : part spec.value_size (rounded spec.value_size) (with_bytes zeros (0 * rounded spec.value_size) spec.initial) 0 ≡ spec.initial = part-here spec.value_size (rounded spec.value_size) zeros spec.initial 0 fits long in
          let start : 0 * rounded spec.value_size ≡ 0 = omega arith in
          let there : part spec.value_size (rounded spec.value_size) (with_bytes zeros 0 spec.initial) 0 ≡ spec.initial = rw start at here in
          rw first (there ∙ sym (value_given spec.value_size spec.initial (omega arith) spec refl))
    ]

-- where the initial content fits
pub initial_fits : (spec : MapSpec) → IsMakeable spec → length spec.initial ≤ spec.max_entries * rounded spec.value_size
initial_fits spec makeable = elim makeable.initial [
  | inl none ↦ rw none (omega arith)
  | inr given ↦
      let one : spec.max_entries ≡ 1 = given.1 in
      let step : spec.value_size ≤ rounded spec.value_size = rounded_above spec.value_size in
      let long : length spec.initial ≡ spec.value_size = given.2 in
      rw (one, long) (omega arith)
]

-- the slots of the first buffers
pub is_taken-replicate : (n place : ℕ) (b : Bool) → place < n → is_taken (replicate n b) place ≡ b
unfolding is_taken
is_taken-replicate n place b below = get_or-replicate n place b false below

pub first_slots-are : (spec : MapSpec) (keys values : List ℕ) (taken : List Bool) → taken ≡ replicate spec.max_entries (is_array spec.kind) → (is_array spec.kind ≡ true → spec.key_size ≡ 4)
    → (is_array spec.kind ≡ true → (place : ℕ) → place < spec.max_entries → part 4 4 keys place ≡ little_bytes 4 place)
    → ((place : ℕ) → place < spec.max_entries → part spec.value_size (rounded spec.value_size) values place ≡ first_value spec)
    → slots_in spec.key_size spec.value_size keys values taken ≡ first_slots spec
first_slots-are spec keys values taken is four index value = elim (cases_Bool (is_array spec.kind)) [
  | inl array ↦
      let all : taken ≡ replicate spec.max_entries true = is ∙ ap (replicate spec.max_entries) array in
      let long : length taken ≡ spec.max_entries = ap length all ∙ length-replicate spec.max_entries true in
      let ls : length (slots_in spec.key_size spec.value_size keys values taken) ≡ length taken = length-slots_in spec.key_size spec.value_size keys values taken in
      rw array (ext_get_or None (slots_in spec.key_size spec.value_size keys values taken) (map (λ place. Some (first_entry spec place)) (range_with_len 0 spec.max_entries))
      (ls ∙ long ∙ sym (length-map-range_with_len (λ (place : ℕ). Some (first_entry spec place)) 0 spec.max_entries))
      (λ i below.
      let inside : i < spec.max_entries = omega arith in
      let seen : is_taken taken i ≡ true = rw all (is_taken-replicate spec.max_entries i true inside) in
      let key : part spec.key_size spec.key_size keys i ≡ little_bytes 4 i = rw (four array) (index array i inside) in
      get-slots_in spec.key_size spec.value_size keys values taken i (omega arith)
      ∙ slot_in-taken spec.key_size spec.value_size keys values taken i (little_bytes 4 i) (first_value spec) seen key (value i inside)
      ∙ sym (get_or-map-range_with_len (λ (place : ℕ). Some (first_entry spec place)) 0 spec.max_entries i i None inside (omega arith))))
  | inr hash ↦
      let none : taken ≡ replicate spec.max_entries false = is ∙ ap (replicate spec.max_entries) hash in
      let long : length taken ≡ spec.max_entries = ap length none ∙ length-replicate spec.max_entries false in
      let ls : length (slots_in spec.key_size spec.value_size keys values taken) ≡ length taken = length-slots_in spec.key_size spec.value_size keys values taken in
      let empty : List (Option Entry) = replicate spec.max_entries None in
      let le : length empty ≡ spec.max_entries = length-replicate spec.max_entries None in
      rw hash (ext_get_or None (slots_in spec.key_size spec.value_size keys values taken) empty (ls ∙ long ∙ sym le)
      (λ i below.
      let inside : i < spec.max_entries = omega arith in
      let unseen : is_taken taken i ≡ false = rw none (is_taken-replicate spec.max_entries i false inside) in
      get-slots_in spec.key_size spec.value_size keys values taken i (omega arith)
      ∙ slot_in-empty spec.key_size spec.value_size keys values taken i unseen
      ∙ sym (get_or-replicate spec.max_entries i None None inside)))
]

pub first_indices : (spec : MapSpec) (keys : List ℕ) (taken : List Bool) → taken ≡ replicate spec.max_entries (is_array spec.kind)
    → (is_array spec.kind ≡ true → (place : ℕ) → place < spec.max_entries → part 4 4 keys place ≡ little_bytes 4 place)
    → is_array spec.kind ≡ true → (place : ℕ) → place < length taken → (is_taken taken place ≡ true) × (part 4 4 keys place ≡ little_bytes 4 place)
first_indices spec keys taken is index array place below =
    let all : taken ≡ replicate spec.max_entries true = is ∙ ap (replicate spec.max_entries) array in
    let long : length taken ≡ spec.max_entries = ap length all ∙ length-replicate spec.max_entries true in
    let inside : place < spec.max_entries = omega arith in
    (rw all (is_taken-replicate spec.max_entries place true inside), index array place inside)
