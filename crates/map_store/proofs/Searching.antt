-- A search for a key along a chain.
use Rattle.std.proofs.Common.{◌≡◌, ℕ, ◌+◌, ◌*◌, ◌<◌, ◌≤◌, inl, inr, Bool, true, false, nat_eq, List, length, take, drop, get_or, Option, Some, None, is_some, refl, sym, ap, ◌∙◌, arith}
use Rattle.std.proofs.lemmas.Bool.{cases_lt, cases_eq, and_parts, false≢true, false_from_ne_true}
use Rattle.std.proofs.lemmas.Slice.Eq.{bytes_eq-Decides}
use Rattle.std.specs.Cmp.Lexicographic.{pointwise}
use Rattle.map_store.specs.Buckets.{bucket_of, after, IsUpTo, IsFirstIn}
use Rattle.map_store.specs.SlotsView.{part, has_key_at, AreOfKeys, IsFirstPlace}
use Rattle.map_store.proofs.Linking.{in_range}

some_of : (o : Option ℕ) → is_some o ≡ true → (bucket : ℕ) × (o ≡ Some bucket)
some_of None some = cc
some_of (Some bucket) some = (bucket, refl)

-- a slot with the key is in the key's bucket
key_bucket : (keys : List ℕ) (buckets : List (Option ℕ)) (key : List ℕ) (k : ℕ) → AreOfKeys (length key) keys buckets → has_key_at keys buckets key k ≡ true → get_or buckets k None ≡ Some (bucket_of (length buckets) key)
unfolding has_key_at
key_bucket keys buckets key k own has =
    let both : (is_some (get_or buckets k None) ≡ true) × (pointwise nat_eq (part (length key) (length key) keys k) key ≡ true) = and_parts (is_some (get_or buckets k None)) (pointwise nat_eq (part (length key) (length key) keys k) key) has in
    let some : (bucket : ℕ) × (get_or buckets k None ≡ Some bucket) = some_of (get_or buckets k None) both.0 in
    let same : part (length key) (length key) keys k ≡ key = (bytes_eq-Decides (part (length key) (length key) keys k) key).0 both.1 in
    some.1 ∙ ap (λ (x : ℕ). Some x) (own k some.0 some.1 ∙ ap (bucket_of (length buckets)) same)

-- a slot of the bucket has the key where its bytes are the key's
pub has_key-slot : (keys : List ℕ) (buckets : List (Option ℕ)) (key : List ℕ) (slot bucket : ℕ) (b : Bool) → get_or buckets slot None ≡ Some bucket → b ≡ pointwise nat_eq (take (length key) (drop (slot * length key) keys)) key → has_key_at keys buckets key slot ≡ b
unfolding has_key_at part
has_key-slot keys buckets key slot bucket b seen is = rw seen (sym is)

module _ (keys : List ℕ) (buckets : List (Option ℕ)) (key : List ℕ) (bucket : ℕ) (before next : Option ℕ) (own : AreOfKeys (length key) keys buckets) (its : bucket ≡ bucket_of (length buckets) key)
    (first : IsFirstIn buckets bucket (after before) next) (none : (k : ℕ) → k < after before → has_key_at keys buckets key k ≡ false) where
  not_before : (k : ℕ) → (IsUpTo k next → ⊥) → has_key_at keys buckets key k ≡ false
  not_before k past = false_from_ne_true (has_key_at keys buckets key k) (λ has. elim (cases_lt k (after before)) [
    | inl under ↦ false≢true (sym (none k under) ∙ has)
    | inr from ↦ past (first.first k from (rw its (key_bucket keys buckets key k own has)))
  ])

  pub search_none : next ≡ None → (k : ℕ) → k < length buckets → has_key_at keys buckets key k ≡ false
  search_none end k below = not_before k (λ up. rw end at up)

  in_front : (slot k : ℕ) → next ≡ Some slot → k < slot → has_key_at keys buckets key k ≡ false
  in_front slot k is below = not_before k (λ up. let reached : slot ≤ k = rw is at up in omega arith)

  pub search_found : (slot : ℕ) → next ≡ Some slot → has_key_at keys buckets key slot ≡ true → IsFirstPlace (has_key_at keys buckets key) (length buckets) slot
  search_found slot is has = record { within = in_range buckets slot bucket (first.found slot is).1; found = has; first = λ k below. in_front slot k is below }

  pub search_more : (slot : ℕ) → next ≡ Some slot → has_key_at keys buckets key slot ≡ false → (k : ℕ) → k < slot + 1 → has_key_at keys buckets key k ≡ false
  search_more slot is unlike k below = elim (cases_eq k slot) [
    | inl same ↦ rw same unlike
    | inr differs ↦ in_front slot k is (omega arith)
  ]
