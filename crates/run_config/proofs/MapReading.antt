-- A member of a map's definition reads as one thing, and so do all.
use Rattle.std.proofs.Common.{◌≡◌, ℕ, zero, suc, ◌≤◌, ◌⊎◌, true, false, List, [], ◌∷◌, ◌++◌, codes, length, min, slice_get, Some, Result, Ok, Err, refl, ap, sym, ◌∙◌, subst, inl, inr, arith}
use Rattle.std.specs.Str.{bytes_eq}
use Rattle.std.proofs.lemmas.Bool.{cases_lt, or_cases}
use Rattle.std.specs.Cmp.Lexicographic.{same_text}
use Rattle.btf_types.specs.declared.types.Part.{Part}
use Rattle.btf_types.specs.Size.{HasSize}
use Rattle.btf_types.specs.TypeTable.{TypeTable}
use Rattle.run_config.specs.MapMembers.{Reads, reads_number, reads_size, is_other, no_number, no_pointer, no_size, ReadsAll, all_kept, least_broken, Points, is_number, is_size}
use Rattle.run_config.specs.Values.{Named, none as nothing}
use Rattle.run_config.proofs.CountedLemmas.{counts-unique, size-unique}
use Rattle.run_config.proofs.Pairing.{paired-at, paired-push, paired-unique}

-- no member gives both a number and the size of a type
key_number : (is_number (codes "key") ≡ false) × (is_number (codes "value") ≡ false)
unfolding is_number
key_number = (refl, refl)

pub not_both : (name : List ℕ) → is_number name ≡ true → is_size name ≡ true → ⊥
unfolding is_size
not_both name n s = elim (or_cases (bytes_eq name (codes "key")) _ s) [
  | inl key ↦ (let e = same_text name (codes "key") (sym key) in let m : is_number (codes "key") ≡ true = subst (λ one. is_number one ≡ true) e n in cc (m, key_number.0))
  | inr more ↦ elim (or_cases (bytes_eq name (codes "value")) false more) [
    | inl value ↦ (let e = same_text name (codes "value") (sym value) in let m : is_number (codes "value") ≡ true = subst (λ one. is_number one ≡ true) e n in cc (m, key_number.1))
    | inr neither ↦ cc
  ]
]

-- what stands at a place of a list with one more
slice_get-more : {A : Type 0} (xs : List A) (x : A) (place : ℕ) (found : A) → slice_get (xs ++ x ∷ []) place ≡ Some found → (slice_get xs place ≡ Some found) ⊎ (found ≡ x)
slice_get-more [] x zero found h = inr (cc)
slice_get-more [] x (suc place) found h = cc
slice_get-more (y ∷ xs) x zero found h = inl h
slice_get-more (y ∷ xs) x (suc place) found h = slice_get-more xs x place found h

slice_get-last : {A : Type 0} (xs : List A) (x : A) → slice_get (xs ++ x ∷ []) (length xs) ≡ Some x
slice_get-last [] x = refl
slice_get-last (y ∷ xs) x = slice_get-last xs x

slice_get-before : {A : Type 0} (xs : List A) (x : A) (place : ℕ) (found : A) → slice_get xs place ≡ Some found → slice_get (xs ++ x ∷ []) place ≡ Some found
slice_get-before [] x place found h = cc
slice_get-before (y ∷ xs) x zero found h = h
slice_get-before (y ∷ xs) x (suc place) found h = slice_get-before xs x place found h

module _ (types : TypeTable) where
  points-unique : {from one other : ℕ} → Points types from one → Points types from other → one ≡ other
  points-unique p q =
      let row = p.row in
      let again = q.row in
      let pointer : p.pointer ≡ q.pointer = cc in
      sym p.refers ∙ ap (λ one. one.size_or_target) pointer ∙ q.refers

  named : (name : List ℕ) (one other : ℕ) → one ≡ other → ◌≡◌ {A = Result Named ℕ} (Ok (record { name = name; value = one })) (Ok (record { name = name; value = other }))
  named name one other e = let make : ℕ → Result Named ℕ = λ value. Ok (record { name = name; value = value }) in ap make e

  size_again : {target again size : ℕ} → target ≡ again → HasSize types target size → HasSize types again size
  size_again {size = size} e h = subst (λ one. HasSize types one size) e h

  pub reads-unique : {member : Part} {one other : Result Named ℕ} → Reads types member one → Reads types member other → one ≡ other
  reads-unique (reads_number n c) (reads_number m d) = named _ _ _ (counts-unique types c d)
  reads-unique (reads_number n c) (reads_size m p h) = absurd (not_both _ n m)
  reads-unique (reads_number n c) (is_other m s) = cc
  reads-unique (reads_number {value = value} n c) (no_number m none) = absurd (none value c)
  reads-unique (reads_number n c) (no_pointer m none) = absurd (not_both _ n m)
  reads-unique (reads_number n c) (no_size m p none) = absurd (not_both _ n m)
  reads-unique (reads_size s p h) (reads_number n c) = absurd (not_both _ n s)
  reads-unique (reads_size s p h) (reads_size t q k) = named _ _ _ (size-unique types (size_again (points-unique p q) h) k)
  reads-unique (reads_size s p h) (is_other m t) = cc
  reads-unique (reads_size s p h) (no_number n none) = absurd (not_both _ n s)
  reads-unique (reads_size {target = target} s p h) (no_pointer t none) = absurd (none target p)
  reads-unique (reads_size {size = size} s p h) (no_size t q none) = absurd (none size (size_again (points-unique p q) h))
  reads-unique (is_other m s) (reads_number n c) = cc
  reads-unique (is_other m s) (reads_size t p h) = cc
  reads-unique (is_other m s) (is_other n t) = refl
  reads-unique (is_other m s) (no_number n none) = cc
  reads-unique (is_other m s) (no_pointer t none) = cc
  reads-unique (is_other m s) (no_size t p none) = cc
  reads-unique (no_number n none) (reads_number {value = value} m c) = absurd (none value c)
  reads-unique (no_number n none) (reads_size s p h) = absurd (not_both _ n s)
  reads-unique (no_number n none) (is_other m s) = cc
  reads-unique (no_number n none) (no_number m more) = refl
  reads-unique (no_number n none) (no_pointer s more) = refl
  reads-unique (no_number n none) (no_size s p more) = absurd (not_both _ n s)
  reads-unique (no_pointer s none) (reads_number n c) = absurd (not_both _ n s)
  reads-unique (no_pointer s none) (reads_size {target = target} t p h) = absurd (none target p)
  reads-unique (no_pointer s none) (is_other m t) = cc
  reads-unique (no_pointer s none) (no_number n more) = refl
  reads-unique (no_pointer s none) (no_pointer t more) = refl
  reads-unique (no_pointer s none) (no_size {target = target} t p more) = absurd (none target p)
  reads-unique (no_size s p none) (reads_number n c) = absurd (not_both _ n s)
  reads-unique (no_size s p none) (reads_size {size = size} t q h) = absurd (none size (size_again (points-unique q p) h))
  reads-unique (no_size s p none) (is_other m t) = cc
  reads-unique (no_size s p none) (no_number n more) = absurd (not_both _ n s)
  reads-unique (no_size {target = target} s p none) (no_pointer t more) = absurd (more target p)
  reads-unique (no_size s p none) (no_size t q more) = refl

  -- a member that is read breaks no rule
  read_or_broken : {member : Part} {value : Named} {rule : ℕ} → Reads types member (Ok value) → Reads types member (Err rule) → ⊥
  read_or_broken r s = let e = reads-unique r s in cc

  one_rule : {member : Part} {one other : ℕ} → Reads types member (Err one) → Reads types member (Err other) → one ≡ other
  one_rule r s = let e = reads-unique r s in cc

  value-unique : (member : Part) (one other : Named) → Reads types member (Ok one) → Reads types member (Ok other) → one ≡ other
  value-unique member one other r s = let e = reads-unique r s in cc

  pub reads_all-unique : {members : List Part} {one other : Result (List Named) ℕ} → ReadsAll types members one → ReadsAll types members other → one ≡ other
  reads_all-unique (all_kept p) (all_kept q) = let make : List Named → Result (List Named) ℕ = λ values. Ok values in ap make (paired-unique value-unique p q)
  reads_all-unique (all_kept p) (least_broken place at r least) = let there = paired-at place p at in absurd (read_or_broken there.1 r)
  reads_all-unique (least_broken place at r least) (all_kept p) = let there = paired-at place p at in absurd (read_or_broken there.1 r)
  reads_all-unique (least_broken {rule = one} k {member = m} at r least) (least_broken {rule = other} l {member = n} there s first) =
      let up = least l other n there s in
      let down = first k one m at r in
      let same : one ≡ other = omega arith in
      let make : ℕ → Result (List Named) ℕ = λ rule. Err rule in
      ap make same

  -- one member more
  pub kept_kept : {members : List Part} {member : Part} {values : List Named} {value : Named} → ReadsAll types members (Ok values) → Reads types member (Ok value) → ReadsAll types (members ++ member ∷ []) (Ok (values ++ value ∷ []))
  kept_kept (all_kept p) r = all_kept (paired-push p r)

  pub kept_broken : {members : List Part} {member : Part} {values : List Named} {rule : ℕ} → ReadsAll types members (Ok values) → Reads types member (Err rule) → ReadsAll types (members ++ member ∷ []) (Err rule)
  kept_broken {members = members} {member = member} {rule = rule} (all_kept p) r =
      least_broken (length members) (slice_get-last members member) r (λ k other one at s. elim (slice_get-more members member k one at) [
        | inl before ↦ (let there = paired-at k p before in absurd (read_or_broken there.1 s))
        | inr e ↦ (let same = one_rule r (subst (λ x. Reads types x (Err other)) e s) in omega (arith, same))
      ])

  pub broken_kept : {members : List Part} {member : Part} {value : Named} {rule : ℕ} → ReadsAll types members (Err rule) → Reads types member (Ok value) → ReadsAll types (members ++ member ∷ []) (Err rule)
  broken_kept {members = members} {member = member} (least_broken place {member = first} at r least) v =
      least_broken place (slice_get-before members member place first at) r (λ k other one there s. elim (slice_get-more members member k one there) [
        | inl before ↦ least k other one before s
        | inr e ↦ absurd (read_or_broken v (subst (λ x. Reads types x (Err other)) e s))
      ])

  pub broken_broken : {members : List Part} {member : Part} {rule another : ℕ} → ReadsAll types members (Err rule) → Reads types member (Err another) → ReadsAll types (members ++ member ∷ []) (Err (min rule another))
  broken_broken {members = members} {member = member} {rule = rule} {another = another} (least_broken place {member = first} at r least) w =
      let all : (k other : ℕ) (one : Part) → slice_get (members ++ member ∷ []) k ≡ Some one → Reads types one (Err other) → min rule another ≤ other = (λ k other one there s. elim (slice_get-more members member k one there) [
        | inl before ↦ (let le = least k other one before s in omega (arith, le))
        | inr e ↦ (let same = one_rule w (subst (λ x. Reads types x (Err other)) e s) in omega (arith, same))
      ]) in
      elim (cases_lt another rule) [
        | inl lower ↦ (let is : another ≡ min rule another = omega arith in least_broken (length members) (slice_get-last members member) (subst (λ one. Reads types member (Err one)) is w) all)
        | inr higher ↦ (let is : rule ≡ min rule another = omega arith in least_broken place (slice_get-before members member place first at) (subst (λ one. Reads types first (Err one)) is r) all)
      ]

-- no member, no value
pub read_none : (types : TypeTable) → ReadsAll types [] (Ok [])
read_none types = all_kept nothing
