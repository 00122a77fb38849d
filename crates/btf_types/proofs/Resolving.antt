-- A type resolves to one row, in fewer steps than there are types.
use Rattle.std.proofs.Common.{◌≡◌, ℕ, zero, suc, ◌+◌, ◌-◌, ◌<◌, ◌≤◌, ◌↔◌, true, false, length, Some, refl, ap, subst, arith, IsTrue}
use Rattle.std.proofs.lemmas.Option.{slice_get_within}
use Rattle.btf_types.proofs.Pigeonhole.{pigeonhole}
use Rattle.btf_types.specs.declared.types.TypeRow.{TypeRow}
use Rattle.btf_types.specs.Kind.{has_target}
use Rattle.btf_types.specs.Links.{depth, Passed}
use Rattle.btf_types.specs.TypeTable.{TypeTable, type_at}
use Rattle.btf_types.specs.Resolution.{Resolves, here, through, is_modifier}

-- a modifier has a target
pub modifier-has_target : (kind : ℕ) → is_modifier kind ≡ true → IsTrue (has_target kind)
unfolding is_modifier
modifier-has_target kind h = grind arith

-- what has a row is the number of a type
pub type_at-in_rows : (types : TypeTable) (number : ℕ) (row : TypeRow) → type_at types number ≡ Some row → (0 < number) × (number ≤ length types.rows)
type_at-in_rows types zero row h = cc
type_at-in_rows types (suc place) row h =
    let there : place < length types.rows = slice_get_within types.rows place row h in
    (omega arith, omega arith)

module _ (types : TypeTable) where
  -- what a modifier resolves to is what its target does
  pub resolves_through : {number : ℕ} {modifier row : TypeRow} → type_at types number ≡ Some modifier → is_modifier modifier.kind ≡ true → Resolves types number row → Resolves types modifier.size_or_target row
  resolves_through e m (here f n) = cc
  resolves_through {modifier = modifier} {row = row} e m (through {modifier = other} f n rest) =
      let same : other.size_or_target ≡ modifier.size_or_target = cc in
      subst (λ number. Resolves types number row) same rest

  pub resolves-unique : {number : ℕ} {one other : TypeRow} → Resolves types number one → Resolves types number other → one ≡ other
  resolves-unique (here e m) (here f n) = cc
  resolves-unique (here e m) (through f n rest) = cc
  resolves-unique (through e m rest) r = resolves-unique rest (resolves_through e m r)

  pub resolves-in_rows : {number : ℕ} {row : TypeRow} → Resolves types number row → (0 < number) × (number ≤ length types.rows)
  resolves-in_rows {number = number} {row = row} (here e m) = type_at-in_rows types number row e
  resolves-in_rows {number = number} (through {modifier = modifier} e m rest) = type_at-in_rows types number modifier e

  pub depth-same : {number again : ℕ} {one other : TypeRow} → number ≡ again → (r : Resolves types number one) (s : Resolves types again other) → depth types r ≡ depth types s
  depth-same e (here f m) (here g n) = refl
  depth-same e (here f m) (through g n others) = cc
  depth-same e (through f m rest) (here g n) = cc
  depth-same e (through {modifier = x} f m rest) (through {modifier = y} g n others) =
      let same : x.size_or_target ≡ y.size_or_target = cc in
      ap suc (depth-same same rest others)

  -- the type that is met after so many modifiers
  abbrev met : {number : ℕ} {row : TypeRow} → Resolves types number row → ℕ → ℕ
  met (here {number = number} e m) i = number
  met (through {number = number} e m rest) zero = number
  met (through e m rest) (suc i) = met rest i

  behind : {number : ℕ} {row : TypeRow} (r : Resolves types number row) (i : ℕ) → i ≤ depth types r → (s : Resolves types (met r i) row) × (depth types s + i ≡ depth types r)
  behind (here e m) i le = (here e m, omega arith)
  behind (through e m rest) zero le = (through e m rest, omega arith)
  behind (through e m rest) (suc i) le =
      let further = behind rest i (omega arith) in
      (further.0, omega (arith, further.1))

  -- fewer modifiers are passed than there are types
  pub not_deep : {number : ℕ} {row : TypeRow} (r : Resolves types number row) → length types.rows ≤ depth types r → ⊥
  not_deep r le =
      let count = length types.rows in
      let place = λ (i : ℕ). met r i - 1 in
      let below : (i : ℕ) → i ≤ count → place i < count = λ i at. (let s = behind r i (omega arith) in let there = resolves-in_rows s.0 in omega (arith, there.0, there.1)) in
      let twice = pigeonhole count place below in
      let one = behind r twice.first (omega (arith, twice.order, twice.last)) in
      let two = behind r twice.second (omega (arith, twice.last)) in
      let one_there = resolves-in_rows one.0 in
      let two_there = resolves-in_rows two.0 in
      let same : met r twice.first ≡ met r twice.second = omega (arith, twice.same, one_there.0, two_there.0) in
      let deep = depth-same same one.0 two.0 in
      omega (arith, deep, one.1, two.1, twice.order)

module _ (types : TypeTable) where
  pub passed_none : (first : ℕ) → first ≤ length types.rows → Passed types first first 0
  passed_none first le = record {
    in_range = le;
    back = λ row r. r;
    forth = λ row r. (r, omega arith);
  }

  pub passed_more : {first at steps : ℕ} {modifier : TypeRow} → Passed types first at steps → type_at types at ≡ Some modifier → is_modifier modifier.kind ≡ true → modifier.size_or_target ≤ length types.rows → Passed types first modifier.size_or_target (steps + 1)
  passed_more w e m le = record {
    in_range = le;
    back = λ row r. w.back row (through e m r);
    forth = λ row r. (let s = w.forth row r in
        let next = resolves_through types e m s.0 in
        let deep = depth-same types refl s.0 (through e m next) in
        (next, omega (arith, s.1, deep)));
  }

  -- void
  pub passed_void : {first at steps : ℕ} {row : TypeRow} → Passed types first at steps → at ≡ 0 → Resolves types first row → ⊥
  passed_void {row = row} w e r = let there = resolves-in_rows types (w.forth row r).0 in omega (arith, there.0)

  -- a type that is no modifier
  pub passed_to : {first at steps : ℕ} {met : TypeRow} → Passed types first at steps → type_at types at ≡ Some met → is_modifier met.kind ≡ false → (row : TypeRow) → (Some met ≡ Some row) ↔ Resolves types first row
  passed_to {first = first} {met = met} w e n row = (
    (λ h. (let same : met ≡ row = cc in subst (λ one. Resolves types first one) same (w.back met (here e n)))),
    (λ r. ap Some (resolves-unique types (here e n) (w.forth row r).0)),
  )

  -- more modifiers than types
  pub passed_all : {first at steps : ℕ} {row : TypeRow} → Passed types first at steps → length types.rows < steps → Resolves types first row → ⊥
  passed_all {row = row} w all r = let s = w.forth row r in not_deep types r (omega (arith, s.1))

  -- one way behind another
  pub passed_then : {first mid at s1 s2 : ℕ} → Passed types first mid s1 → Passed types mid at s2 → Passed types first at (s1 + s2)
  passed_then w v = record {
    in_range = v.in_range;
    back = λ row r. w.back row (v.back row r);
    forth = λ row r. (let s = w.forth row r in
        let t = v.forth row s.0 in
        (t.0, omega (arith, s.1, t.1)));
  }
