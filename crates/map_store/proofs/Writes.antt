-- Slots after a write to their buffers.
use Rattle.std.proofs.Common.{◌≡◌, ℕ, ◌+◌, ◌*◌, ◌<◌, ◌≤◌, inl, inr, Bool, true, false, List, set, length, get_or, Option, Some, None, Vec, refl, sym, ap, ◌∙◌, arith}
use Rattle.std.proofs.lemmas.List.{length-set, get_or-set_same, get_or-set_other, with_items_is}
use Rattle.std.proofs.lemmas.Nat.{row_fits}
use Rattle.std.proofs.lemmas.Bool.{cases_Bool, false≢true}
use Rattle.std.proofs.lemmas.Slice.Eq.{bytes_eq-Decides}
use Rattle.std.specs.Vec.{with_items}
use Rattle.flat_memory.specs.Numbers.{with_bytes}
use Rattle.map_store.specs.declared.spec.MapKind.{MapKind}
use Rattle.map_store.specs.Spec.{rounded}
use Rattle.map_store.specs.Slots.{Map, Entry, has_key}
use Rattle.map_store.specs.Values.{slot_written}
use Rattle.map_store.specs.Occupied.{is_taken}
use Rattle.map_store.specs.SlotsView.{part, slot_in, slots_in}
use Rattle.map_store.proofs.Parts.{part-here, part-elsewhere, part-inside}
use Rattle.map_store.proofs.SlotLists.{slots_in-set, get-slots_in}

pub with_slots : (kind : MapKind) (key_size value_size : ℕ) (a b : List (Option Entry)) → a ≡ b
    → ◌≡◌ {A = Map} (record { kind = kind; key_size = key_size; value_size = value_size; slots = a }) (record { kind = kind; key_size = key_size; value_size = value_size; slots = b })
with_slots kind key_size value_size a b e = ap (λ (slots : List (Option Entry)). record { kind = kind; key_size = key_size; value_size = value_size; slots = slots }) e

-- the items of a Vec whose slice was written
pub written_items : {X Z : Type 0} (v : Vec X Z) (ws xs : List X) → ws ≡ xs → length xs ≡ length v.items → (with_items v ws).items ≡ xs
written_items v ws xs is long = with_items_is v ws (ap length is ∙ long ∙ sym v.ok.0) ∙ is

-- whether a slot is taken after one is set
pub is_taken-same : (taken : List Bool) (place : ℕ) (b : Bool) → place < length taken → is_taken (set taken place b) place ≡ b
unfolding is_taken
is_taken-same taken place b within = get_or-set_same taken place b false within

pub is_taken-other : (taken : List Bool) (place other : ℕ) (b : Bool) → (other ≡ place → ⊥) → is_taken (set taken place b) other ≡ is_taken taken other
unfolding is_taken
is_taken-other taken place other b apart = get_or-set_other taken place other b false apart

-- a slot by what its buffers hold
pub slot_in-taken : (k v : ℕ) (keys values : List ℕ) (taken : List Bool) (place : ℕ) (key value : List ℕ) → is_taken taken place ≡ true → part k k keys place ≡ key → part v (rounded v) values place ≡ value
    → slot_in k v keys values taken place ≡ Some (record { key = key; value = value })
unfolding slot_in
slot_in-taken k v keys values taken place key value seen ek ev = rw (seen, ek, ev) refl

pub slot_in-empty : (k v : ℕ) (keys values : List ℕ) (taken : List Bool) (place : ℕ) → is_taken taken place ≡ false → slot_in k v keys values taken place ≡ None
unfolding slot_in
slot_in-empty k v keys values taken place seen = rw seen refl

pub slot_in-same : (k v : ℕ) (keys values keys' values' : List ℕ) (taken taken' : List Bool) (place : ℕ) → is_taken taken' place ≡ is_taken taken place → part k k keys' place ≡ part k k keys place → part v (rounded v) values' place ≡ part v (rounded v) values place
    → slot_in k v keys' values' taken' place ≡ slot_in k v keys values taken place
unfolding slot_in
slot_in-same k v keys values keys' values' taken taken' place seen ek ev = rw (seen, ek, ev) refl

pub slot_in-written : (k v : ℕ) (keys values values' : List ℕ) (taken : List Bool) (place byte : ℕ) (others : List ℕ) → part v (rounded v) values' place ≡ with_bytes (part v (rounded v) values place) byte others
    → slot_in k v keys values' taken place ≡ slot_written (slot_in k v keys values taken place) byte others
unfolding slot_in
slot_in-written k v keys values values' taken place byte others e = elim (cases_Bool (is_taken taken place)) [
  | inl seen ↦ rw (seen, e) refl
  | inr unseen ↦ rw unseen refl
]

-- a slot with a key is taken and has it in its buffer
pub has_key_in : (k v : ℕ) (keys values : List ℕ) (taken : List Bool) (place : ℕ) (key : List ℕ) → has_key key (slot_in k v keys values taken place) ≡ true → (is_taken taken place ≡ true) × (part k k keys place ≡ key)
unfolding slot_in
has_key_in k v keys values taken place key has = elim (cases_Bool (is_taken taken place)) [
  | inl seen ↦ (seen, (bytes_eq-Decides (part k k keys place) key).0 (rw seen at has))
  | inr unseen ↦ absurd (false≢true (rw unseen at has))
]

-- an empty slot isn't taken
pub untaken : (k v : ℕ) (keys values : List ℕ) (taken : List Bool) (place : ℕ) → slot_in k v keys values taken place ≡ None → is_taken taken place ≡ false
unfolding slot_in
untaken k v keys values taken place is = elim (cases_Bool (is_taken taken place)) [
  | inl seen ↦ cc (rw seen at is)
  | inr unseen ↦ unseen
]

module _ (k v : ℕ) (keys values : List ℕ) (taken : List Bool) (long : length keys ≡ length taken * k) (wide : length values ≡ length taken * rounded v) (step : v ≤ rounded v) (place : ℕ) (within : place < length taken) where
  -- the rooms of a place
  pub value_room : place * rounded v + rounded v ≤ length values
  value_room = let e : place * rounded v + rounded v ≤ length taken * rounded v = row_fits place (rounded v) (length taken) (rounded v) within (omega arith) in omega arith

  pub key_room : place * k + k ≤ length keys
  key_room = let e : place * k + k ≤ length taken * k = row_fits place k (length taken) k within (omega arith) in omega arith

  -- a part written at a place leaves those at others
  pub other_key : (key : List ℕ) (other : ℕ) → length key ≡ k → other < length taken → (other ≡ place → ⊥) → part k k (with_bytes keys (place * k) key) other ≡ part k k keys other
  other_key key other size below apart = part-elsewhere k k keys key place (place * k) other (length taken) below within (omega arith) (omega arith) (omega arith) (omega arith) apart

  other_value : (others : List ℕ) (start other : ℕ) → place * rounded v ≤ start → start + length others ≤ place * rounded v + v → other < length taken → (other ≡ place → ⊥) → part v (rounded v) (with_bytes values start others) other ≡ part v (rounded v) values other
  other_value others start other from to below apart = part-elsewhere v (rounded v) values others place start other (length taken) below within (omega arith) step from (omega arith) apart

  here_value : (value : List ℕ) → length value ≡ v → part v (rounded v) (with_bytes values (place * rounded v) value) place ≡ value
  here_value value size = let room : place * rounded v + rounded v ≤ length values = value_room in part-here v (rounded v) values value place (omega arith) size

  pub here_key : (key : List ℕ) → length key ≡ k → part k k (with_bytes keys (place * k) key) place ≡ key
  here_key key size = let room : place * k + k ≤ length keys = key_room in part-here k k keys key place room size

  -- the value of a slot that has a key, an entry in a slot, and a slot that is emptied
  pub value_set : (key value values' : List ℕ) → values' ≡ with_bytes values (place * rounded v) value → length value ≡ v → has_key key (get_or (slots_in k v keys values taken) place None) ≡ true
      → slots_in k v keys values' taken ≡ set (slots_in k v keys values taken) place (Some (record { key = key; value = value }))
  value_set key value values' is size has =
      let old : get_or (slots_in k v keys values taken) place None ≡ slot_in k v keys values taken place = get-slots_in k v keys values taken place within in
      let facts : (is_taken taken place ≡ true) × (part k k keys place ≡ key) = has_key_in k v keys values taken place key (rw old at has) in
      rw is (slots_in-set k v keys values keys (with_bytes values (place * rounded v) value) taken taken place (Some (record { key = key; value = value })) refl within
      (slot_in-taken k v keys (with_bytes values (place * rounded v) value) taken place key value facts.0 facts.1 (here_value value size))
      (λ other below apart. slot_in-same k v keys values keys (with_bytes values (place * rounded v) value) taken taken other refl refl (other_value value (place * rounded v) other (omega arith) (omega arith) below apart)))

  pub filled : (key value keys' values' : List ℕ) → keys' ≡ with_bytes keys (place * k) key → values' ≡ with_bytes values (place * rounded v) value → length key ≡ k → length value ≡ v
      → slots_in k v keys' values' (set taken place true) ≡ set (slots_in k v keys values taken) place (Some (record { key = key; value = value }))
  filled key value keys' values' is is' size size' =
      rw (is, is') (slots_in-set k v keys values (with_bytes keys (place * k) key) (with_bytes values (place * rounded v) value) taken (set taken place true) place (Some (record { key = key; value = value })) (length-set taken place true) within
      (slot_in-taken k v (with_bytes keys (place * k) key) (with_bytes values (place * rounded v) value) (set taken place true) place key value (is_taken-same taken place true within) (here_key key size) (here_value value size'))
      (λ other below apart. slot_in-same k v keys values (with_bytes keys (place * k) key) (with_bytes values (place * rounded v) value) taken (set taken place true) other (is_taken-other taken place other true apart) (other_key key other size below apart) (other_value value (place * rounded v) other (omega arith) (omega arith) below apart)))

  pub emptied_at : slots_in k v keys values (set taken place false) ≡ set (slots_in k v keys values taken) place None
  emptied_at =
      slots_in-set k v keys values keys values taken (set taken place false) place None (length-set taken place false) within
      (slot_in-empty k v keys values (set taken place false) place (is_taken-same taken place false within))
      (λ other below apart. slot_in-same k v keys values keys values taken (set taken place false) other (is_taken-other taken place other false apart) refl refl)

  -- bytes written inside a value
  pub value_written : (others values' : List ℕ) (byte : ℕ) → values' ≡ with_bytes values (place * rounded v + byte) others → byte + length others ≤ v
      → slots_in k v keys values' taken ≡ set (slots_in k v keys values taken) place (slot_written (get_or (slots_in k v keys values taken) place None) byte others)
  value_written others values' byte is size =
      let old : get_or (slots_in k v keys values taken) place None ≡ slot_in k v keys values taken place = get-slots_in k v keys values taken place within in
      let room : place * rounded v + rounded v ≤ length values = value_room in
      rw (is, old) (slots_in-set k v keys values keys (with_bytes values (place * rounded v + byte) others) taken taken place (slot_written (slot_in k v keys values taken place) byte others) refl within
      (slot_in-written k v keys values (with_bytes values (place * rounded v + byte) others) taken place byte others (part-inside v (rounded v) values others place byte (omega arith) size))
      (λ other below apart. slot_in-same k v keys values keys (with_bytes values (place * rounded v + byte) others) taken taken other refl refl (other_value others (place * rounded v + byte) other (omega arith) (omega arith) below apart)))
