-- More places than values: two places have one value.
use Rattle.std.proofs.Common.{◌≡◌, ◌≢◌, ℕ, zero, suc, ◌<◌, ◌≤◌, ◌⊎◌, inl, inr, cond, eqb, refl, ap, sym, ◌∙◌, arith}
use Rattle.std.proofs.lemmas.Bool.{cases_eq, eq-eqb, ne_eqb}

pub record Twice (f : ℕ → ℕ) (n : ℕ) : Type 0 where
  pub first : ℕ
  pub second : ℕ
  pub order : first < second
  pub last : second ≤ n
  pub same : f first ≡ f second

-- a value stands below m, or nowhere there
find : (f : ℕ → ℕ) (v m : ℕ) → ((i : ℕ) × (i < m) × (f i ≡ v)) ⊎ ((i : ℕ) → i < m → f i ≢ v)
find f v zero = inr (λ i h. absurd (omega arith))
find f v (suc m) = elim (cases_eq (f m) v) [
  | inl e ↦ inl (m, omega arith, e)
  | inr n ↦ elim (find f v m) [
    | inl found ↦ inl (found.0, omega (arith, found.1), found.2)
    | inr none ↦ inr (λ i h. elim (cases_eq i m) [ inl e ↦ (λ p. n (ap f (sym e) ∙ p)) | inr ne ↦ none i (omega arith) ])
  ]
]

-- f with v in place of n
swapped : (ℕ → ℕ) → ℕ → ℕ → ℕ → ℕ
swapped f n v i = cond (eqb (f i) n) v (f i)

swapped-at : (f : ℕ → ℕ) (n v i : ℕ) → f i ≡ n → swapped f n v i ≡ v
unfolding swapped
swapped-at f n v i e = rw (eq-eqb (f i) n e) refl

swapped-else : (f : ℕ → ℕ) (n v i : ℕ) → f i ≢ n → swapped f n v i ≡ f i
unfolding swapped
swapped-else f n v i e = rw (ne_eqb (f i) n e) refl

-- a place that has not v has a value below n, once n is swapped
swapped-lt : (f : ℕ → ℕ) (n v i : ℕ) → v < suc n → f i < suc n → f i ≢ v → swapped f n v i < n
swapped-lt f n v i hv hf ne = elim (cases_eq (f i) n) [
  | inl e ↦ (let w : v ≢ n = (λ p. ne (e ∙ sym p)) in rw (swapped-at f n v i e) (omega arith))
  | inr d ↦ rw (swapped-else f n v i d) (omega arith)
]

-- what is equal once n is swapped was equal, where v stands nowhere
swapped-same : (f : ℕ → ℕ) (n v i j : ℕ) → f i ≢ v → f j ≢ v → swapped f n v i ≡ swapped f n v j → f i ≡ f j
swapped-same f n v i j hi hj e = elim (cases_eq (f i) n) [
  | inl a ↦ elim (cases_eq (f j) n) [
    | inl b ↦ a ∙ sym b
    | inr b ↦ absurd (hj (sym (swapped-else f n v j b) ∙ sym e ∙ swapped-at f n v i a))
  ]
  | inr a ↦ elim (cases_eq (f j) n) [
    | inl b ↦ absurd (hi (sym (swapped-else f n v i a) ∙ e ∙ swapped-at f n v j b))
    | inr b ↦ sym (swapped-else f n v i a) ∙ e ∙ swapped-else f n v j b
  ]
]

pub pigeonhole : (n : ℕ) (f : ℕ → ℕ) → ((i : ℕ) → i ≤ n → f i < n) → Twice f n
pigeonhole zero f h = absurd (omega (arith, h 0 (omega arith)))
pigeonhole (suc n) f h =
    let v : ℕ = f (suc n) in
    elim (find f v (suc n)) [
      | inl found ↦ record { first = found.0; second = suc n; order = found.1; last = omega arith; same = found.2 }
      | inr none ↦
          (let below : (i : ℕ) → i ≤ n → swapped f n v i < n = (λ i le. swapped-lt f n v i (h (suc n) (omega arith)) (h i (omega arith)) (none i (omega arith))) in
          let twice = pigeonhole n (swapped f n v) below in
          record {
            first = twice.first;
            second = twice.second;
            order = twice.order;
            last = omega (arith, twice.last);
            same = swapped-same f n v twice.first twice.second (none twice.first (omega (arith, twice.order, twice.last))) (none twice.second (omega (arith, twice.last))) twice.same;
          })
    ]
