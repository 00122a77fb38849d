-- Chains after a slot is put into a bucket or taken out of one.
use Rattle.std.proofs.Common.{◌≡◌, ℕ, ◌+◌, ◌*◌, ◌<◌, ◌≤◌, inl, inr, List, set, length, get_or, Option, Some, None, refl, sym, ap, ◌∙◌, subst, arith}
use Rattle.std.proofs.lemmas.Bool.{cases_lt, cases_eq}
use Rattle.std.proofs.lemmas.List.{length-set, get_or-set_same, get_or-set_other, get_or_past}
use Rattle.map_store.specs.Buckets.{IsIn, after, IsUpTo, IsFirstIn, IsLastIn, link_place, AreChains}

pub in_range : (buckets : List (Option ℕ)) (k bucket : ℕ) → get_or buckets k None ≡ Some bucket → k < length buckets
in_range buckets k bucket is = elim (cases_lt k (length buckets)) [
  | inl below ↦ below
  | inr past ↦ let none : get_or buckets k None ≡ None = get_or_past buckets k None past in absurd (cc)
]

pub link_within : (slots : ℕ) (buckets links : List (Option ℕ)) (bucket : ℕ) (before : Option ℕ) → AreChains slots buckets links → bucket < slots → IsIn buckets bucket before → link_place slots bucket before < slots * 2
link_within slots buckets links bucket None ok below is = omega arith
link_within slots buckets links bucket (Some place) ok below is =
    let within : place < length buckets = in_range buckets place bucket is in
    let count : length buckets ≡ slots = ok.count in
    omega arith

up_to_later : (near limit : ℕ) (result : Option ℕ) → IsUpTo near result → near ≤ limit → IsUpTo limit result
up_to_later near limit None is below = absurd is
up_to_later near limit (Some place) is below = omega arith

-- links of one place are those of one bucket and one slot
same_link : (buckets : List (Option ℕ)) (slots bucket other : ℕ) (before slot : Option ℕ) → bucket < slots → other < slots → IsIn buckets bucket before → IsIn buckets other slot
    → link_place slots other slot ≡ link_place slots bucket before → (other ≡ bucket) × (after slot ≡ after before)
same_link buckets slots bucket other None None below below' is is' same = (same, refl)
same_link buckets slots bucket other None (Some q) below below' is is' same = absurd (omega arith)
same_link buckets slots bucket other (Some p) None below below' is is' same = absurd (omega arith)
same_link buckets slots bucket other (Some p) (Some q) below below' is is' same =
    let one : q ≡ p = omega arith in
    let own : other ≡ bucket = cc in
    (own, ap (λ (k : ℕ). k + 1) one)

-- a slot in front of a place that isn't the bucket's last one there has a later one behind it
record HasLater (slot before : Option ℕ) : Type 0 where
  near : ℕ
  is : before ≡ Some near
  behind : after slot ≤ near

later : (buckets : List (Option ℕ)) (slots bucket place : ℕ) (slot before : Option ℕ) → IsIn buckets bucket slot → after slot ≤ place → IsLastIn buckets bucket place before
    → (link_place slots bucket slot ≡ link_place slots bucket before → ⊥) → HasLater slot before
later buckets slots bucket place None None is below last apart = absurd (apart refl)
later buckets slots bucket place None (Some p) is below last apart = record { near = p; is = refl; behind = omega arith }
later buckets slots bucket place (Some q) None is below last apart = absurd (last.last q (omega arith) (omega arith) is)
later buckets slots bucket place (Some q) (Some p) is below last apart = elim (cases_lt q p) [
  | inl under ↦ record { near = p; is = refl; behind = omega arith }
  | inr past ↦ elim (cases_eq q p) [
    | inl same ↦ absurd (apart (ap (λ (k : ℕ). slots + k) same))
    | inr differs ↦ absurd (last.last q (omega arith) (omega arith) is)
  ]
]

-- the link of such a slot leads to a slot in front of the place
record LeadsBefore (place : ℕ) (result : Option ℕ) : Type 0 where
  near : ℕ
  below : near < place
  leads : IsUpTo near result

leads_before : (buckets : List (Option ℕ)) (slots bucket place : ℕ) (slot before result : Option ℕ) → IsIn buckets bucket slot → after slot ≤ place → IsLastIn buckets bucket place before
    → (link_place slots bucket slot ≡ link_place slots bucket before → ⊥) → IsFirstIn buckets bucket (after slot) result → LeadsBefore place result
leads_before buckets slots bucket place slot before result is below last apart first =
    let there : HasLater slot before = later buckets slots bucket place slot before is below last apart in
    let seen : get_or buckets there.near None ≡ Some bucket = subst (λ (o : Option ℕ). IsIn buckets bucket o) there.is last.found in
    let under : there.near + 1 ≤ place = subst (λ (o : Option ℕ). after o ≤ place) there.is last.before in
    record { near = there.near; below = omega arith; leads = first.first there.near there.behind seen }

at_place : (buckets : List (Option ℕ)) (bucket bucket' start start' : ℕ) (result : Option ℕ) → bucket ≡ bucket' → start ≡ start' → IsFirstIn buckets bucket' start' result → IsFirstIn buckets bucket start result
at_place buckets bucket bucket' start start' result own from first = rw (own, from) first

-- the links and the buckets once a slot is in a bucket, and once it is out of it
abbrev linked : ℕ → List (Option ℕ) → ℕ → ℕ → Option ℕ → Option ℕ → List (Option ℕ)
linked slots links place bucket before behind = set (set links (slots + place) behind) (link_place slots bucket before) (Some place)

abbrev unlinked : ℕ → List (Option ℕ) → ℕ → Option ℕ → Option ℕ → List (Option ℕ)
unlinked slots links bucket before behind = set links (link_place slots bucket before) behind

abbrev with : List (Option ℕ) → ℕ → ℕ → List (Option ℕ)
with buckets place bucket = set buckets place (Some bucket)

abbrev without : List (Option ℕ) → ℕ → List (Option ℕ)
without buckets place = set buckets place None

-- the place's own link isn't that of a slot in front of it
own_apart : (buckets : List (Option ℕ)) (slots place bucket : ℕ) (before : Option ℕ) → bucket < slots → after before ≤ place → slots + place ≡ link_place slots bucket before → ⊥
own_apart buckets slots place bucket None below front same = omega arith
own_apart buckets slots place bucket (Some p) below front same = omega arith

module _ (slots : ℕ) (buckets links : List (Option ℕ)) (place bucket : ℕ) (before behind : Option ℕ) (ok : AreChains slots buckets links) (within : place < slots) (below : bucket < slots)
    (last : IsLastIn buckets bucket place before) (outside : get_or buckets place None ≡ None) (next : IsFirstIn buckets bucket (after before) behind) where
  here : get_or (with buckets place bucket) place None ≡ Some bucket
  here = get_or-set_same buckets place (Some bucket) None (rw ok.count within)

  other : (k : ℕ) → (k ≡ place → ⊥) → get_or (with buckets place bucket) k None ≡ get_or buckets k None
  other k apart = get_or-set_other buckets place k (Some bucket) None apart

  was : (k b : ℕ) → (k ≡ place → ⊥) → get_or (with buckets place bucket) k None ≡ Some b → get_or buckets k None ≡ Some b
  was k b apart seen = sym (other k apart) ∙ seen

  apart : (k b : ℕ) → get_or buckets k None ≡ Some b → k ≡ place → ⊥
  apart k b seen same = cc

  still : (k b : ℕ) → get_or buckets k None ≡ Some b → get_or (with buckets place bucket) k None ≡ Some b
  still k b seen = other k (apart k b seen) ∙ seen

  its_bucket : (b : ℕ) → get_or (with buckets place bucket) place None ≡ Some b → b ≡ bucket
  its_bucket b seen = let e : get_or (with buckets place bucket) place None ≡ Some bucket = here in cc

  -- the link that now leads to the place
  first_now : IsFirstIn (with buckets place bucket) bucket (after before) (Some place)
  first_now = record {
    found = λ p is. let same : place ≡ p = cc in rw (← same) (last.before, here);
    first = λ k from seen. elim (cases_lt k place) [
      | inl under ↦ absurd (last.last k from under (was k bucket (λ same. omega arith) seen))
      | inr past ↦ past
    ];
  }

  beyond : (p : ℕ) → after before ≤ p → get_or buckets p None ≡ Some bucket → place + 1 ≤ p
  beyond p from seen = elim (cases_lt p place) [
    | inl under ↦ absurd (last.last p from under seen)
    | inr past ↦ elim (cases_eq p place) [
      | inl same ↦ absurd (apart p bucket seen same)
      | inr differs ↦ omega arith
    ]
  ]

  -- the place's own link
  behind_now : IsFirstIn (with buckets place bucket) bucket (place + 1) behind
  behind_now = record {
    found = λ p is. let old : (after before ≤ p) × (get_or buckets p None ≡ Some bucket) = next.found p is in (beyond p old.0 old.1, still p bucket old.1);
    first = λ k from seen. next.first k (omega (arith, last.before)) (was k bucket (λ same. omega arith) seen);
  }

  -- a link that stays, of the bucket and of another one
  kept : (slot result : Option ℕ) → IsIn buckets bucket slot → (link_place slots bucket slot ≡ link_place slots bucket before → ⊥) → IsFirstIn buckets bucket (after slot) result → IsFirstIn (with buckets place bucket) bucket (after slot) result
  kept slot result is differs first = record {
    found = λ p e. let old : (after slot ≤ p) × (get_or buckets p None ≡ Some bucket) = first.found p e in (old.0, still p bucket old.1);
    first = λ k from seen. elim (cases_eq k place) [
      | inl same ↦
          let near : LeadsBefore place result = leads_before buckets slots bucket place slot before result is (omega arith) last differs first in
          up_to_later near.near k result near.leads (omega (arith, near.below))
      | inr elsewhere ↦ first.first k from (was k bucket elsewhere seen)
    ];
  }

  kept_elsewhere : (b : ℕ) (slot result : Option ℕ) → (b ≡ bucket → ⊥) → IsFirstIn buckets b (after slot) result → IsFirstIn (with buckets place bucket) b (after slot) result
  kept_elsewhere b slot result differs first = record {
    found = λ p e. let old : (after slot ≤ p) × (get_or buckets p None ≡ Some b) = first.found p e in (old.0, still p b old.1);
    first = λ k from seen. first.first k from (was k b (λ same. differs (its_bucket b (rw same at seen))) seen);
  }

  kept_in : (b : ℕ) (slot result : Option ℕ) → b ≡ bucket → IsIn buckets b slot → (link_place slots b slot ≡ link_place slots bucket before → ⊥) → IsFirstIn buckets b (after slot) result → IsFirstIn (with buckets place bucket) b (after slot) result
  kept_in b slot result own = subst (λ (x : ℕ). IsIn buckets x slot → (link_place slots x slot ≡ link_place slots bucket before → ⊥) → IsFirstIn buckets x (after slot) result → IsFirstIn (with buckets place bucket) x (after slot) result) (sym own) (kept slot result)

  length-links : length (set links (slots + place) behind) ≡ length links
  length-links = length-set links (slots + place) behind

  read_new : get_or (linked slots links place bucket before behind) (link_place slots bucket before) None ≡ Some place
  read_new =
      let small : link_place slots bucket before < slots * 2 = link_within slots buckets links bucket before ok below last.found in
      let long : length (set links (slots + place) behind) ≡ length links = length-links in
      let size : length links ≡ slots * 2 = ok.size in
      get_or-set_same (set links (slots + place) behind) (link_place slots bucket before) (Some place) None (omega arith)

  read_own : get_or (linked slots links place bucket before behind) (slots + place) None ≡ behind
  read_own =
      let size : length links ≡ slots * 2 = ok.size in
      get_or-set_other (set links (slots + place) behind) (link_place slots bucket before) (slots + place) (Some place) None (own_apart buckets slots place bucket before below last.before)
      ∙ get_or-set_same links (slots + place) behind None (omega arith)

  read_other : (i : ℕ) → (i ≡ link_place slots bucket before → ⊥) → (i ≡ slots + place → ⊥) → get_or (linked slots links place bucket before behind) i None ≡ get_or links i None
  read_other i differs off =
      get_or-set_other (set links (slots + place) behind) (link_place slots bucket before) i (Some place) None differs
      ∙ get_or-set_other links (slots + place) i behind None off

  -- from a slot that was in its bucket before
  next_kept : (b : ℕ) (slot : Option ℕ) → b < slots → IsIn buckets b slot → (link_place slots b slot ≡ slots + place → ⊥)
      → IsFirstIn (with buckets place bucket) b (after slot) (get_or (linked slots links place bucket before behind) (link_place slots b slot) None)
  next_kept b slot small is off = elim (cases_eq (link_place slots b slot) (link_place slots bucket before)) [
    | inl same ↦
        let one : (b ≡ bucket) × (after slot ≡ after before) = same_link buckets slots bucket b before slot below small last.found is same in
        let read : get_or (linked slots links place bucket before behind) (link_place slots b slot) None ≡ Some place = rw same read_new in
        rw read (at_place (with buckets place bucket) b bucket (after slot) (after before) (Some place) one.0 one.1 first_now)
    | inr differs ↦
        let first : IsFirstIn buckets b (after slot) (get_or links (link_place slots b slot) None) = ok.next b slot small is in
        rw (read_other (link_place slots b slot) differs off) (elim (cases_eq b bucket) [
          | inl own ↦ kept_in b slot (get_or links (link_place slots b slot) None) own is differs first
          | inr foreign ↦ kept_elsewhere b slot (get_or links (link_place slots b slot) None) foreign first
        ])
  ]

  placed : (b q : ℕ) → q ≡ place → get_or (with buckets place bucket) place None ≡ Some b → IsFirstIn (with buckets place bucket) b (q + 1) (get_or (linked slots links place bucket before behind) (slots + q) None)
  placed b q same seen = let own : b ≡ bucket = its_bucket b seen in rw (same, own) (rw read_own behind_now)

  next_now : (b : ℕ) (slot : Option ℕ) → b < slots → IsIn (with buckets place bucket) b slot → IsFirstIn (with buckets place bucket) b (after slot) (get_or (linked slots links place bucket before behind) (link_place slots b slot) None)
  next_now b None small is = next_kept b None small tt (λ off. omega arith)
  next_now b (Some q) small is = elim (cases_eq q place) [
    | inl same ↦ placed b q same (rw same at is)
    | inr differs ↦ next_kept b (Some q) small (was q b differs is) (λ off. differs (omega arith))
  ]

  pub inserted : AreChains slots (with buckets place bucket) (linked slots links place bucket before behind)
  inserted = record {
    few = ok.few;
    count = length-set buckets place (Some bucket) ∙ ok.count;
    size = length-set (set links (slots + place) behind) (link_place slots bucket before) (Some place) ∙ length-links ∙ ok.size;
    within = λ k b seen. elim (cases_eq k place) [
      | inl same ↦ let own : b ≡ bucket = its_bucket b (rw same at seen) in omega arith
      | inr elsewhere ↦ ok.within k b (was k b elsewhere seen)
    ];
    next = next_now;
  }

module _ (slots : ℕ) (buckets links : List (Option ℕ)) (place bucket : ℕ) (before behind : Option ℕ) (ok : AreChains slots buckets links) (within : place < slots)
    (inside : get_or buckets place None ≡ Some bucket) (last : IsLastIn buckets bucket place before) (next : IsFirstIn buckets bucket (place + 1) behind) where
  gone : get_or (without buckets place) place None ≡ None
  gone = get_or-set_same buckets place None None (rw ok.count within)

  elsewhere : (k b : ℕ) → get_or (without buckets place) k None ≡ Some b → k ≡ place → ⊥
  elsewhere k b seen same = let e : get_or (without buckets place) place None ≡ None = gone in cc

  left : (k b : ℕ) → get_or (without buckets place) k None ≡ Some b → get_or buckets k None ≡ Some b
  left k b seen = sym (get_or-set_other buckets place k None None (elsewhere k b seen)) ∙ seen

  stays : (k b : ℕ) → (k ≡ place → ⊥) → get_or buckets k None ≡ Some b → get_or (without buckets place) k None ≡ Some b
  stays k b apart seen = get_or-set_other buckets place k None None apart ∙ seen

  -- the link that led to the place
  passed_over : IsFirstIn (without buckets place) bucket (after before) behind
  passed_over = record {
    found = λ p is.
        let old : (place + 1 ≤ p) × (get_or buckets p None ≡ Some bucket) = next.found p is in
        (omega (arith, last.before, old.0), stays p bucket (λ same. omega (arith, old.0)) old.1);
    first = λ k from seen. elim (cases_lt k place) [
      | inl under ↦ absurd (last.last k from under (left k bucket seen))
      | inr past ↦ let apart : k ≡ place → ⊥ = elsewhere k bucket seen in next.first k (omega arith) (left k bucket seen)
    ];
  }

  -- a slot whose link stays leads to none but those that stay
  reaches : (slot result : Option ℕ) (p : ℕ) → IsIn buckets bucket slot → (link_place slots bucket slot ≡ link_place slots bucket before → ⊥) → IsFirstIn buckets bucket (after slot) result → result ≡ Some p → after slot ≤ p → p ≡ place → ⊥
  reaches slot result p is differs first e from same =
      let near : LeadsBefore place result = leads_before buckets slots bucket place slot before result is (omega arith) last differs first in
      let leads : p ≤ near.near = subst (IsUpTo near.near) e near.leads in
      omega (arith, near.below)

  its_own : (b : ℕ) → get_or buckets place None ≡ Some b → b ≡ bucket
  its_own b seen = cc

  -- a link that stays, of the bucket and of another one
  remains : (slot result : Option ℕ) → IsIn buckets bucket slot → (link_place slots bucket slot ≡ link_place slots bucket before → ⊥) → IsFirstIn buckets bucket (after slot) result → IsFirstIn (without buckets place) bucket (after slot) result
  remains slot result is differs first = record {
    found = λ p e.
        let old : (after slot ≤ p) × (get_or buckets p None ≡ Some bucket) = first.found p e in
        (old.0, stays p bucket (reaches slot result p is differs first e old.0) old.1);
    first = λ k from seen. first.first k from (left k bucket seen);
  }

  remains_elsewhere : (b : ℕ) (slot result : Option ℕ) → (b ≡ bucket → ⊥) → IsFirstIn buckets b (after slot) result → IsFirstIn (without buckets place) b (after slot) result
  remains_elsewhere b slot result differs first = record {
    found = λ p e.
        let old : (after slot ≤ p) × (get_or buckets p None ≡ Some b) = first.found p e in
        (old.0, stays p b (λ same. differs (its_own b (rw same at old.1))) old.1);
    first = λ k from seen. first.first k from (left k b seen);
  }

  remains_in : (b : ℕ) (slot result : Option ℕ) → b ≡ bucket → IsIn buckets b slot → (link_place slots b slot ≡ link_place slots bucket before → ⊥) → IsFirstIn buckets b (after slot) result → IsFirstIn (without buckets place) b (after slot) result
  remains_in b slot result own = subst (λ (x : ℕ). IsIn buckets x slot → (link_place slots x slot ≡ link_place slots bucket before → ⊥) → IsFirstIn buckets x (after slot) result → IsFirstIn (without buckets place) x (after slot) result) (sym own) (remains slot result)

  below : bucket < slots
  below = ok.within place bucket inside

  read_over : get_or (unlinked slots links bucket before behind) (link_place slots bucket before) None ≡ behind
  read_over =
      let size : length links ≡ slots * 2 = ok.size in
      let small : link_place slots bucket before < slots * 2 = link_within slots buckets links bucket before ok below last.found in
      get_or-set_same links (link_place slots bucket before) behind None (omega arith)

  next_left : (b : ℕ) (slot : Option ℕ) → b < slots → IsIn buckets b slot → IsFirstIn (without buckets place) b (after slot) (get_or (unlinked slots links bucket before behind) (link_place slots b slot) None)
  next_left b slot small is = elim (cases_eq (link_place slots b slot) (link_place slots bucket before)) [
    | inl same ↦
        let one : (b ≡ bucket) × (after slot ≡ after before) = same_link buckets slots bucket b before slot below small last.found is same in
        let read : get_or (unlinked slots links bucket before behind) (link_place slots b slot) None ≡ behind = rw same read_over in
        rw read (at_place (without buckets place) b bucket (after slot) (after before) behind one.0 one.1 passed_over)
    | inr differs ↦
        let first : IsFirstIn buckets b (after slot) (get_or links (link_place slots b slot) None) = ok.next b slot small is in
        rw (get_or-set_other links (link_place slots bucket before) (link_place slots b slot) behind None differs) (elim (cases_eq b bucket) [
          | inl own ↦ remains_in b slot (get_or links (link_place slots b slot) None) own is differs first
          | inr foreign ↦ remains_elsewhere b slot (get_or links (link_place slots b slot) None) foreign first
        ])
  ]

  was_in : (b : ℕ) (slot : Option ℕ) → IsIn (without buckets place) b slot → IsIn buckets b slot
  was_in b None is = tt
  was_in b (Some q) is = left q b is

  pub removed : AreChains slots (without buckets place) (unlinked slots links bucket before behind)
  removed = record {
    few = ok.few;
    count = length-set buckets place None ∙ ok.count;
    size = length-set links (link_place slots bucket before) behind ∙ ok.size;
    within = λ k b seen. ok.within k b (left k b seen);
    next = λ b slot small is. next_left b slot small (was_in b slot is);
  }
