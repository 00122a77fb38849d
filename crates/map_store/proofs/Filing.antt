-- The buckets of keys once a slot is filled or emptied.
use Rattle.std.proofs.Common.{◌≡◌, ℕ, ◌+◌, ◌*◌, ◌<◌, ◌≤◌, inl, inr, Bool, true, false, List, set, replicate, length, get_or, Option, Some, None, is_some, refl, sym, ap, ◌∙◌, arith}
use Rattle.std.proofs.lemmas.Bool.{cases_eq, false≢true}
use Rattle.std.proofs.lemmas.List.{length-set, length-replicate, get_or-set_same, get_or-set_other, get_or-replicate}
use Rattle.map_store.specs.Occupied.{is_taken}
use Rattle.map_store.specs.Buckets.{bucket_of}
use Rattle.map_store.specs.Spec.{rounded}
use Rattle.map_store.specs.Slots.{Map, is_array}
use Rattle.map_store.specs.SlotsView.{part, slot_in, map_of, AreBuckets, HasBuffers}
use Rattle.map_store.specs.declared.slots.Slots.TheInside.{Inside}
use Rattle.flat_memory.specs.Numbers.{with_bytes}
use Rattle.flat_memory.proofs.Bytes.{length-with_bytes}
use Rattle.map_store.proofs.SlotLists.{get-slots_in}
use Rattle.map_store.proofs.SlotRooms.{IsPlace}
use Rattle.map_store.proofs.Changes.{here_key, other_key}
use Rattle.map_store.proofs.Linking.{in_range}
use Rattle.map_store.proofs.Start.{is_taken-replicate}
use Rattle.map_store.proofs.Writes.{is_taken-same, is_taken-other, untaken}

none_of : (bucket : Option ℕ) → is_some bucket ≡ false → bucket ≡ None
none_of None none = refl
none_of (Some bucket) none = cc

-- an empty slot is in no bucket
outside : (size : ℕ) (keys : List ℕ) (taken : List Bool) (buckets : List (Option ℕ)) (place : ℕ) → AreBuckets size keys taken buckets → place < length taken → is_taken taken place ≡ false → get_or buckets place None ≡ None
outside size keys taken buckets place ok within unseen = none_of (get_or buckets place None) (ok.filled place within ∙ unseen)

filed : (size : ℕ) (keys keys' key : List ℕ) (taken : List Bool) (buckets : List (Option ℕ)) (place bucket : ℕ) → AreBuckets size keys taken buckets → place < length taken → bucket ≡ bucket_of (length buckets) key
    → part size size keys' place ≡ key → ((k : ℕ) → k < length taken → (k ≡ place → ⊥) → part size size keys' k ≡ part size size keys k)
    → AreBuckets size keys' (set taken place true) (set buckets place (Some bucket))
filed size keys keys' key taken buckets place bucket ok within is here others =
    let count : length buckets ≡ length taken = ok.count in
    let long : length (set taken place true) ≡ length taken = length-set taken place true in
    let inside : place < length buckets = omega arith in
    let now : get_or (set buckets place (Some bucket)) place None ≡ Some bucket = get_or-set_same buckets place (Some bucket) None inside in
    record {
      count = length-set buckets place (Some bucket) ∙ count ∙ sym long;
      filled = λ k below. elim (cases_eq k place) [
        | inl same ↦ rw (same, now, is_taken-same taken place true within) refl
        | inr apart ↦ rw (get_or-set_other buckets place k (Some bucket) None apart, is_taken-other taken place k true apart) (ok.filled k (omega arith))
      ];
      own = λ k b seen. rw (length-set buckets place (Some bucket)) (elim (cases_eq k place) [
        | inl same ↦
            let old : get_or (set buckets place (Some bucket)) place None ≡ Some b = rw same at seen in
            let one : b ≡ bucket = cc in
            rw (same, here) (one ∙ is)
        | inr apart ↦
            let old : get_or buckets k None ≡ Some b = sym (get_or-set_other buckets place k (Some bucket) None apart) ∙ seen in
            let below : k < length buckets = in_range buckets k b old in
            ok.own k b old ∙ ap (bucket_of (length buckets)) (sym (others k (omega arith) apart))
      ]);
    }

taken_out : (size : ℕ) (keys : List ℕ) (taken : List Bool) (buckets : List (Option ℕ)) (place : ℕ) → AreBuckets size keys taken buckets → place < length taken → AreBuckets size keys (set taken place false) (set buckets place None)
taken_out size keys taken buckets place ok within =
    let count : length buckets ≡ length taken = ok.count in
    let long : length (set taken place false) ≡ length taken = length-set taken place false in
    let inside : place < length buckets = omega arith in
    let gone : get_or (set buckets place None) place None ≡ None = get_or-set_same buckets place None None inside in
    record {
      count = length-set buckets place None ∙ count ∙ sym long;
      filled = λ k below. elim (cases_eq k place) [
        | inl same ↦ rw (same, gone, is_taken-same taken place false within) refl
        | inr apart ↦ rw (get_or-set_other buckets place k None None apart, is_taken-other taken place k false apart) (ok.filled k (omega arith))
      ];
      own = λ k b seen. rw (length-set buckets place None) (elim (cases_eq k place) [
        | inl same ↦ let old : get_or (set buckets place None) place None ≡ Some b = rw same at seen in absurd (cc)
        | inr apart ↦ ok.own k b (sym (get_or-set_other buckets place k None None apart) ∙ seen)
      ]);
    }

-- at first no slot of a hash is taken, nor in a bucket
pub none_filed : (size : ℕ) (keys : List ℕ) (slots : ℕ) (taken : List Bool) (buckets : List (Option ℕ)) → taken ≡ replicate slots false → buckets ≡ replicate slots None → AreBuckets size keys taken buckets
none_filed size keys slots taken buckets none out =
    let seen : length taken ≡ slots = ap length none ∙ length-replicate slots false in
    let held : length buckets ≡ slots = ap length out ∙ length-replicate {A = Option ℕ} slots None in
    let gone : (k : ℕ) → k < slots → get_or buckets k None ≡ None = λ k below. rw out (get_or-replicate {A = Option ℕ} slots k None None below) in
    record {
      count = held ∙ sym seen;
      filled = λ k below. rw (gone k (omega arith), none, is_taken-replicate slots k false (omega arith)) refl;
      own = λ k b is.
          let below : k < length buckets = in_range buckets k b is in
          let empty : get_or buckets k None ≡ None = gone k (omega arith) in
          absurd (cc);
    }

-- the slots of a hash after a change of their buffers
changed : (s t : Inside) → HasBuffers s → is_array s.kind ≡ false → t.kind ≡ s.kind → t.key_size ≡ s.key_size → t.value_size ≡ s.value_size → t.stride ≡ s.stride
    → length t.keys.items ≡ length s.keys.items → length t.values.items ≡ length s.values.items → length t.taken ≡ length s.taken → AreBuckets s.key_size t.keys.items t.taken t.chains → HasBuffers t
changed s t ok hash kind key value stride keys values taken buckets =
    let no_array : is_array t.kind ≡ true → ⊥ = λ array. false≢true (sym hash ∙ sym (ap is_array kind) ∙ array) in
    record {
      stride = stride ∙ ok.stride ∙ ap rounded (sym value);
      keys = rw (keys, taken, key) ok.keys;
      values = rw (values, taken, stride) ok.values;
      step = rw (value, stride) ok.step;
      some = rw stride ok.some;
      room = rw values ok.room;
      keys_room = rw keys ok.keys_room;
      key_small = rw key ok.key_small;
      value_small = rw value ok.value_small;
      slots = rw taken ok.slots;
      few = rw taken ok.few;
      array = λ array. absurd (no_array array);
      indices = λ array place below. absurd (no_array array);
      buckets = λ _. rw key buckets;
    }

pub emptied_buffers : (s t : Inside) (place : ℕ) → HasBuffers s → is_array s.kind ≡ false → place < length s.taken → t.kind ≡ s.kind → t.key_size ≡ s.key_size → t.value_size ≡ s.value_size → t.stride ≡ s.stride
    → t.keys.items ≡ s.keys.items → t.values.items ≡ s.values.items → t.taken ≡ set s.taken place false → t.chains ≡ set s.chains place None → HasBuffers t
emptied_buffers s t place ok hash within kind key value stride keys values taken chains =
    changed s t ok hash kind key value stride (ap length keys) (ap length values) (ap length taken ∙ length-set s.taken place false)
    (rw (keys, taken, chains) (taken_out s.key_size s.keys.items s.taken s.chains place (ok.buckets hash) within))

pub filled_buffers : (s t : Inside) (place bucket : ℕ) (key : List ℕ) (ok : HasBuffers s) (p : IsPlace s place) → is_array s.kind ≡ false → t.kind ≡ s.kind → t.key_size ≡ s.key_size → t.value_size ≡ s.value_size → t.stride ≡ s.stride
    → t.keys.items ≡ with_bytes s.keys.items (place * s.key_size) key → length t.values.items ≡ length s.values.items → t.taken ≡ set s.taken place true → t.chains ≡ set s.chains place (Some bucket)
    → length key ≡ s.key_size → bucket ≡ bucket_of (length s.chains) key → HasBuffers t
filled_buffers s t place bucket key ok p hash kind key_size value stride keys values taken chains size is =
    let room : place * s.key_size + s.key_size ≤ length s.keys.items = p.key in
    changed s t ok hash kind key_size value stride (ap length keys ∙ length-with_bytes s.keys.items (place * s.key_size) key (omega arith)) values (ap length taken ∙ length-set s.taken place true)
    (rw (taken, chains) (filed s.key_size s.keys.items t.keys.items key s.taken s.chains place bucket (ok.buckets hash) p.within is (here_key s ok place p key t.keys.items keys size) (other_key s ok place p key t.keys.items keys size)))

-- an empty slot of a hash is in no bucket
pub empty_outside : (s : Inside) (map : Map) (place : ℕ) → map_of s ≡ map → HasBuffers s → is_array s.kind ≡ false → place < length s.taken → get_or map.slots place None ≡ None → get_or s.chains place None ≡ None
empty_outside s map place is ok hash within empty =
    let slot : get_or (map_of s).slots place None ≡ None = rw (← is) at empty in
    let none : slot_in s.key_size s.value_size s.keys.items s.values.items s.taken place ≡ None = sym (get-slots_in s.key_size s.value_size s.keys.items s.values.items s.taken place within) ∙ slot in
    outside s.key_size s.keys.items s.taken s.chains place (ok.buckets hash) within (untaken s.key_size s.value_size s.keys.items s.values.items s.taken place none)
