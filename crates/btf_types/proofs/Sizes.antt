-- Sizes, and chains of references.
use Rattle.std.proofs.Common.{◌≡◌, ℕ, zero, suc, ◌+◌, ◌-◌, ◌*◌, ◌<◌, ◌≤◌, ◌^◌, length, Option, Some, None, option_and_then, refl, ap, sym, ◌∙◌, subst, arith, zero-add, suc-add, unwrap_or, slice_get, inl, inr}
use Rattle.std.proofs.lemmas.Option.{slice_get_cases}
use Rattle.btf_types.proofs.Pigeonhole.{pigeonhole}
use Rattle.btf_types.specs.declared.size.Sizing.TheVariants.{Own, OfTarget, OfElements, Absent}
use Rattle.btf_types.specs.declared.types.TypeRow.{TypeRow}
use Rattle.btf_types.specs.TypeTable.{TypeTable}
use Rattle.btf_types.specs.Links.{after}
use Rattle.btf_types.specs.Size.{HasSize, own, of_target, of_elements, IsEndless, Meets, itself, further, RefersTo, referred, sizing, sizing_of_row}

-- from a type the references come to an end
pub data Ends (types : TypeTable) : ℕ → Type 0 where
  stops : {n : ℕ} → referred (sizing types n) ≡ None → Ends types n
  goes_on : {n m : ℕ} → RefersTo types n m → Ends types m → Ends types n

module _ (types : TypeTable) where
  -- a size, by what a type has it
  pub size_own : {n size t : ℕ} → sizing types n ≡ Own size → HasSize types n t → t ≡ size
  size_own e (own f small) = cc
  size_own e (of_target f rest) = cc
  size_own e (of_elements f rest small) = cc

  pub size_of_target : {n m t : ℕ} → sizing types n ≡ OfTarget m → HasSize types n t → HasSize types m t
  size_of_target e (own f small) = cc
  size_of_target {t = t} e (of_target {target = target} f rest) =
      subst (λ k. HasSize types k t) (cc) rest
  size_of_target e (of_elements f rest small) = cc

  pub size_of_elements : {n count m t : ℕ} → sizing types n ≡ OfElements count m → HasSize types n t → (size : ℕ) × HasSize types m size × (count * size < 2 ^ 32) × (t ≡ count * size)
  size_of_elements e (own f small) = cc
  size_of_elements e (of_target f rest) = cc
  size_of_elements {count = count} {m = m} e (of_elements {count = times} {element = element} {size = size} f rest small) =
      let same : times ≡ count = cc in
      let there : element ≡ m = cc in
      (size, subst (λ k. HasSize types k size) there rest, subst (λ k. k * size < 2 ^ 32) same small, ap (λ k. k * size) same)

  pub size_absent : {n t : ℕ} → sizing types n ≡ Absent → HasSize types n t → ⊥
  size_absent e (own f small) = cc
  size_absent e (of_target f rest) = cc
  size_absent e (of_elements f rest small) = cc

  -- each size is below 2 ^ 32
  pub size_small : {n t : ℕ} → HasSize types n t → t < 2 ^ 32
  size_small (own f small) = small
  size_small (of_target f rest) = size_small rest
  size_small (of_elements f rest small) = small

  -- from a type with a size the references come to an end
  pub size_ends : {n t : ℕ} → HasSize types n t → Ends types n
  size_ends (own f small) = stops (ap referred f)
  size_ends (of_target f rest) = goes_on (ap referred f) (size_ends rest)
  size_ends (of_elements f rest small) = goes_on (ap referred f) (size_ends rest)

  meets_more : {n m k : ℕ} → Meets types n m → RefersTo types m k → Meets types n k
  meets_more itself r = further r itself
  meets_more (further s rest) r = further s (meets_more rest r)

  ends_next : {n m : ℕ} → Ends types n → RefersTo types n m → Ends types m
  ends_next (stops e) r = cc
  ends_next {m = m} (goes_on {m = k} s rest) r = subst (λ x. Ends types x) (cc) rest

  ends_met : {n m : ℕ} → Meets types n m → Ends types n → Ends types m
  ends_met itself e = e
  ends_met (further s rest) e = ends_met rest (ends_next e s)

  -- where the references end, no type leads back to itself
  no_way_back : {met next : ℕ} → Ends types met → RefersTo types met next → Meets types next met → ⊥
  no_way_back (stops e) r back = cc
  no_way_back (goes_on s rest) r itself = no_way_back rest (subst (λ k. RefersTo types k k) (cc) r) itself
  no_way_back (goes_on s rest) r (further {next = x} t back) = no_way_back rest (subst (λ k. RefersTo types k x) (cc) t) (meets_more back s)

  pub ends_somewhere : {n : ℕ} → Ends types n → IsEndless types n → ⊥
  ends_somewhere e h = no_way_back (ends_met h.once e) h.refers h.again

module _ (types : TypeTable) where
  -- from one reference on
  after_none : (k n : ℕ) (o : Option ℕ) → referred (sizing types n) ≡ o → ((m : ℕ) → after types k m ≡ None → Ends types m) → option_and_then (after types k) o ≡ None → Ends types n
  after_none k n None e rest h = stops e
  after_none k n (Some m) e rest h = goes_on e (rest m h)

  -- nothing is met after so many references, so they come to an end
  pub ends_from_after : (k n : ℕ) → after types k n ≡ None → Ends types n
  unfolding after
  ends_from_after zero n h = cc
  ends_from_after (suc k) n h = after_none k n (referred (sizing types n)) refl (ends_from_after k) h

  after_one : (k n : ℕ) (o : Option ℕ) (met : ℕ) → option_and_then (after types k) o ≡ Some met → (next : ℕ) × (o ≡ Some next) × (after types k next ≡ Some met)
  after_one k n None met h = cc
  after_one k n (Some next) met h = (next, refl, h)

  -- what is met after one reference more
  pub after_suc : (k n met : ℕ) → after types (suc k) n ≡ Some met → (next : ℕ) × RefersTo types n next × (after types k next ≡ Some met)
  unfolding after
  after_suc k n met h = after_one k n (referred (sizing types n)) met h

  pub meets_from_after : (k n met : ℕ) → after types k n ≡ Some met → Meets types n met
  unfolding after
  meets_from_after zero n met h = let e : n ≡ met = cc in subst (λ m. Meets types n m) e itself
  meets_from_after (suc k) n met h =
      let one = after_suc k n met h in
      further one.1 (meets_from_after k one.0 met one.2)

  -- what is met after all is met after the first of them, and the others
  pub after_split : (i d n met : ℕ) → after types (i + d) n ≡ Some met → (mid : ℕ) × (after types i n ≡ Some mid) × (after types d mid ≡ Some met)
  unfolding after
  after_split zero d n met h = (n, refl, rw zero-add at h)
  after_split (suc i) d n met h =
      let one = after_suc (i + d) n met (rw suc-add at h) in
      let rest = after_split i d one.0 met one.2 in
      (rest.0, rw one.1 rest.1, rest.2)

  no_row : (o : Option TypeRow) (other : ℕ) → o ≡ None → referred (sizing_of_row types o) ≡ Some other → ⊥
  no_row None other e r = cc
  no_row (Some row) other e r = cc

  -- what refers is a type with a row
  pub refers_from_row : (n other : ℕ) → RefersTo types n other → (0 < n) × (n ≤ length types.rows)
  unfolding sizing
  refers_from_row zero other r = cc
  refers_from_row (suc place) other r = elim (slice_get_cases types.rows place).1 [
    | inl there ↦ (omega arith, omega (arith, there.1))
    | inr past ↦ absurd (no_row (slice_get types.rows place) other past.1 r)
  ]

  -- one reference more than there are types: each place before has a type with a row
  after_in_rows : (n met i : ℕ) → after types (suc (length types.rows)) n ≡ Some met → i ≤ length types.rows → (mid : ℕ) × (after types i n ≡ Some mid) × (0 < mid) × (mid ≤ length types.rows)
  after_in_rows n met i h le =
      let d = length types.rows - i in
      let split : suc (length types.rows) ≡ i + suc d = omega arith in
      let parts = after_split i (suc d) n met (subst (λ k. after types k n ≡ Some met) split h) in
      let next = after_suc d parts.0 met parts.2 in
      let row = refers_from_row parts.0 next.0 next.1 in
      (parts.0, parts.1, row.0, row.1)

  place_after : ℕ → ℕ → ℕ
  place_after n i = unwrap_or (after types i n) 0 - 1

  place_after-met : (n i mid : ℕ) → after types i n ≡ Some mid → place_after n i ≡ mid - 1
  unfolding place_after
  place_after-met n i mid h = rw h refl

  -- a type that is met again leads back to itself
  endless_from_twice : (n i d mid : ℕ) → after types i n ≡ Some mid → after types (i + suc d) n ≡ Some mid → IsEndless types n
  endless_from_twice n i d mid once again =
      let parts = after_split i (suc d) n mid again in
      let same : parts.0 ≡ mid = cc (parts.1, once) in
      let next = after_suc d mid mid (subst (λ k. after types (suc d) k ≡ Some mid) same parts.2) in
      record {
        met = mid;
        next = next.0;
        once = meets_from_after i n mid once;
        refers = next.1;
        again = meets_from_after d next.0 mid next.2;
      }

  endless_from_places : (n i j mid other : ℕ) → i < j → mid ≡ other → after types i n ≡ Some mid → after types j n ≡ Some other → IsEndless types n
  endless_from_places n i j mid other order same once again =
      let split : j ≡ i + suc (j - i - 1) = omega arith in
      endless_from_twice n i (j - i - 1) mid once (subst (λ k. after types k n ≡ Some mid) split (again ∙ ap Some (sym same)))

  -- two of these places have one type
  pub endless_from_after : (n met : ℕ) → after types (suc (length types.rows)) n ≡ Some met → IsEndless types n
  endless_from_after n met h =
      let count = length types.rows in
      let below : (i : ℕ) → i ≤ count → place_after n i < count = λ i le. (let at = after_in_rows n met i h le in rw (place_after-met n i at.0 at.1) (omega (arith, at.2, at.3))) in
      let twice = pigeonhole count (place_after n) below in
      let one = after_in_rows n met twice.first h (omega (arith, twice.order, twice.last)) in
      let two = after_in_rows n met twice.second h (omega (arith, twice.last)) in
      let at_one = place_after-met n twice.first one.0 one.1 in
      let at_two = place_after-met n twice.second two.0 two.1 in
      let same : one.0 ≡ two.0 = omega (arith, one.2, two.2, at_one, at_two, twice.same) in
      endless_from_places n twice.first twice.second one.0 two.0 twice.order same one.1 two.1
