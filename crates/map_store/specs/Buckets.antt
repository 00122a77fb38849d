-- The buckets of a hash's slots, and the chains that the slots of a bucket make, in the order of their places.
use Rattle.std.specs.Prelude.{◌≡◌, ◌≤◌, ◌<◌, ℕ, ◌+◌, ◌*◌, ◌%◌, List, length, slice_index_or, Option, Some, None}
use Rattle.std.specs.Hash.DefaultHasher as sip

-- the bucket of a key among so many: what its SipHash leaves
unfoldable pub bucket_of : ℕ → List ℕ → ℕ
bucket_of buckets key = sip.finish (sip.write sip.initial key) % buckets

-- no slot, or one of the bucket
abbrev pub IsIn : List (Option ℕ) → ℕ → Option ℕ → Type 0
IsIn buckets bucket None = Unit {0}
IsIn buckets bucket (Some place) = slice_index_or buckets place None ≡ Some bucket

-- the place behind a slot, or the first one
abbrev pub after : Option ℕ → ℕ
after None = 0
after (Some place) = place + 1

-- there is a slot up to this place
abbrev pub IsUpTo : ℕ → Option ℕ → Type 0
IsUpTo limit None = ⊥
IsUpTo limit (Some place) = place ≤ limit

-- the first slot of a bucket from a place on, if there is one
pub record IsFirstIn (buckets : List (Option ℕ)) (bucket start : ℕ) (result : Option ℕ) : Type 0 where
  pub found : (place : ℕ) → result ≡ Some place → (start ≤ place) × (slice_index_or buckets place None ≡ Some bucket)
  pub first : (k : ℕ) → start ≤ k → slice_index_or buckets k None ≡ Some bucket → IsUpTo k result

-- the last slot of a bucket in front of a place, if there is one
pub record IsLastIn (buckets : List (Option ℕ)) (bucket place : ℕ) (result : Option ℕ) : Type 0 where
  pub found : IsIn buckets bucket result
  pub before : after result ≤ place
  pub last : (k : ℕ) → after result ≤ k → k < place → slice_index_or buckets k None ≡ Some bucket → ⊥

-- where the link to a bucket's first slot stands, or the one to the slot behind another in its bucket
abbrev pub link_place : ℕ → ℕ → Option ℕ → ℕ
link_place slots bucket None = bucket
link_place slots bucket (Some place) = slots + place

-- each link leads to the next slot of the bucket
pub record AreChains (slots : ℕ) (buckets links : List (Option ℕ)) : Type 0 where
  pub few : slots ≤ 1048576
  pub count : length buckets ≡ slots
  pub size : length links ≡ slots * 2
  pub within : (k bucket : ℕ) → slice_index_or buckets k None ≡ Some bucket → bucket < slots
  pub next : (bucket : ℕ) (before : Option ℕ) → bucket < slots → IsIn buckets bucket before
      → IsFirstIn buckets bucket (after before) (slice_index_or links (link_place slots bucket before) None)
