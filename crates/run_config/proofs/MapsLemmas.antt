-- Maps behind one another, and the one answer.
use Rattle.std.proofs.Common.{◌≡◌, ℕ, zero, suc, ◌+◌, ◌<◌, ◌≤◌, List, [], ◌∷◌, ◌++◌, take, slice_get, None, Some, Result, refl, ap, sym, ◌∙◌, subst, inl, inr, arith}
use Rattle.std.proofs.lemmas.Bool.{cases_eq, cases_lt}
use Rattle.btf_types.specs.declared.types.TypeRow.{TypeRow}
use Rattle.btf_types.specs.TypeTable.{TypeTable}
use Rattle.map_store.specs.declared.spec.MapSpec.{MapSpec}
use Rattle.run_config.specs.declared.named_map.NamedMap.{NamedMap}
use Rattle.run_config.specs.MapDefinition.{Defines, no_structure, bad_member, by_members, IsPlainStructure, spec_of}
use Rattle.run_config.specs.MapMembers.{ReadsAll}
use Rattle.map_store.specs.Initial.{AreMakeable}
use Rattle.run_config.specs.MapRules.{rule_behind}
use Rattle.run_config.specs.Maps.{AreMaps, Breaks, by_definition, by_map, IsFirstBreak, IsMap, specs_of}
use Rattle.run_config.specs.Values.{Named, Paired}
use Rattle.run_config.specs.Variables.{parts_of}
use Rattle.run_config.proofs.MapBreaks.{makeable-take, no_rule, specs_of-push}
use Rattle.run_config.proofs.MapReading.{reads_all-unique}
use Rattle.run_config.proofs.Pairing.{paired-at, paired-take, paired-unique}
use Rattle.run_config.proofs.Parts.{slice_get-take, take-next}

module _ (types : TypeTable) where
  plain-unique : {number : ℕ} {one other : TypeRow} → IsPlainStructure types number one → IsPlainStructure types number other → one ≡ other
  plain-unique s t =
      let row = s.row in
      let again = t.row in
      cc

  parts-same : {number : ℕ} {one other : TypeRow} {read : Result (List Named) ℕ} → IsPlainStructure types number one → IsPlainStructure types number other → ReadsAll types (parts_of types one) read → ReadsAll types (parts_of types other) read
  parts-same {read = read} s t r = subst (λ row. ReadsAll types (parts_of types row) read) (plain-unique s t) r

  pub defines-unique : {number : ℕ} {one other : Result MapSpec ℕ} → Defines types number one → Defines types number other → one ≡ other
  defines-unique (no_structure n) (no_structure m) = refl
  defines-unique (no_structure n) (bad_member {structure = row} s r) = absurd (n row s)
  defines-unique (no_structure n) (by_members {structure = row} s r) = absurd (n row s)
  defines-unique (bad_member {structure = row} s r) (no_structure n) = absurd (n row s)
  defines-unique (bad_member s r) (bad_member t q) = let e = reads_all-unique types (parts-same s t r) q in cc
  defines-unique (bad_member s r) (by_members t q) = let e = reads_all-unique types (parts-same s t r) q in cc
  defines-unique (by_members {structure = row} s r) (no_structure n) = absurd (n row s)
  defines-unique (by_members s r) (bad_member t q) = let e = reads_all-unique types (parts-same s t r) q in cc
  defines-unique (by_members {values = one} s r) (by_members {values = other} t q) =
      let e = reads_all-unique types (parts-same s t r) q in
      let same : one ≡ other = cc in
      ap spec_of same

  map-unique : (variable : TypeRow) (one other : NamedMap) → IsMap types variable one → IsMap types variable other → one ≡ other
  map-unique variable one other m n =
      let specs = defines-unique m.spec n.spec in
      let spec : one.spec ≡ other.spec = cc in
      let with_name : List ℕ → NamedMap = λ name. record { name = name; spec = one.spec } in
      let with_spec : MapSpec → NamedMap = λ spec. record { name = other.name; spec = spec } in
      ap with_name (m.name ∙ sym n.name) ∙ ap with_spec spec

  -- each list of variables has one list of maps
  pub maps-unique : (variables : List TypeRow) (one other : List NamedMap) → AreMaps types variables one → AreMaps types variables other → one ≡ other
  maps-unique variables one other m n = paired-unique map-unique m.each n.each

take-take : {A : Type 0} (count more : ℕ) (xs : List A) → count ≤ more → take count (take more xs) ≡ take count xs
take-take zero more xs le = refl
take-take (suc count) zero xs le = absurd (omega arith)
take-take (suc count) (suc more) [] le = refl
take-take (suc count) (suc more) (x ∷ xs) le = ap (λ rest. x ∷ rest) (take-take count more xs (omega arith))

module _ (types : TypeTable) where
  -- a map that keeps the rules behind others breaks none
  fits_behind : {before : List NamedMap} {variable : TypeRow} {rule : ℕ} → Breaks types before variable rule → (map : NamedMap) → IsMap types variable map → rule_behind (specs_of before) map.spec ≡ None → ⊥
  fits_behind (by_definition d) map is none = let e = defines-unique types d is.spec in cc
  fits_behind {before = before} {variable = variable} (by_map {map = other} {rule = rule} m broken) map is none =
      let same = map-unique types variable other map m is in
      let here : rule_behind (specs_of before) map.spec ≡ Some rule = subst (λ (x : NamedMap). rule_behind (specs_of before) x.spec ≡ Some rule) same broken in
      absurd (cc)

  -- where all variables are maps, none breaks a rule
  pub no_break : (variables : List TypeRow) (maps before : List NamedMap) (index rule : ℕ) (variable : TypeRow) → AreMaps types variables maps → Paired (IsMap types) (take index variables) before → slice_get variables index ≡ Some variable → Breaks types before variable rule → ⊥
  no_break variables maps before index rule variable m b here breaks =
      let there = paired-at index m.each here in
      let front : take index maps ≡ before = paired-unique (map-unique types) (paired-take index m.each) b in
      let more : take (index + 1) maps ≡ before ++ there.0 ∷ [] = take-next maps index there.0 there.2 ∙ ap (λ xs. xs ++ there.0 ∷ []) front in
      let specs : specs_of (take (index + 1) maps) ≡ specs_of before ++ there.0.spec ∷ [] = ap specs_of more ∙ specs_of-push before there.0 in
      let makeable = subst AreMakeable specs (makeable-take maps (index + 1) m.makeable) in
      fits_behind breaks there.0 there.1 (no_rule (specs_of before) there.0.spec makeable)

  pub apart : (variables : List TypeRow) (maps : List NamedMap) (index rule : ℕ) → AreMaps types variables maps → IsFirstBreak types variables index rule → ⊥
  apart variables maps index rule m b = no_break variables maps b.maps index rule b.variable m b.before.each b.here b.breaks

  one_rule : {before : List NamedMap} {variable : TypeRow} {one other : ℕ} → Breaks types before variable one → Breaks types before variable other → one ≡ other
  one_rule (by_definition d) (by_definition e) = let same = defines-unique types d e in cc
  one_rule (by_definition d) (by_map m broken) = let same = defines-unique types d m.spec in cc
  one_rule (by_map m broken) (by_definition d) = let same = defines-unique types d m.spec in cc
  one_rule {before = before} {variable = variable} {one = one} (by_map {map = map} m broken) (by_map {map = another} n again) =
      let same = map-unique types variable map another m n in
      let here : rule_behind (specs_of before) another.spec ≡ Some one = subst (λ (x : NamedMap). rule_behind (specs_of before) x.spec ≡ Some one) same broken in
      cc

  no_break_before : (variables : List TypeRow) {index earlier rule another : ℕ} → IsFirstBreak types variables index rule → IsFirstBreak types variables earlier another → earlier < index → ⊥
  no_break_before variables {index = index} {earlier = earlier} {another = another} b e less =
      let front : take earlier (take index variables) ≡ take earlier variables = take-take earlier index variables (omega arith) in
      no_break (take index variables) b.maps e.maps earlier another e.variable b.before (subst (λ xs. Paired (IsMap types) xs e.maps) (sym front) e.before.each) (slice_get-take variables index earlier less ∙ e.here) e.breaks

  same_place : (variables : List TypeRow) {one other rule another : ℕ} → IsFirstBreak types variables one rule → IsFirstBreak types variables other another → one ≡ other → rule ≡ another
  same_place variables {rule = rule} b c e =
      let variable : b.variable ≡ c.variable = (let here = b.here in let there = c.here in cc) in
      let maps : b.maps ≡ c.maps = paired-unique (map-unique types) (subst (λ k. Paired (IsMap types) (take k variables) b.maps) e b.before.each) c.before.each in
      let breaks : Breaks types c.maps c.variable rule = subst (λ x. Breaks types c.maps x rule) variable (subst (λ xs. Breaks types xs b.variable rule) maps b.breaks) in
      one_rule breaks c.breaks

  -- at most one map is the first that breaks a rule, by one rule
  pub break-unique : (variables : List TypeRow) (one other rule another : ℕ) → IsFirstBreak types variables one rule → IsFirstBreak types variables other another → (one ≡ other) × (rule ≡ another)
  break-unique variables one other rule another b c = elim (cases_eq one other) [
    | inl e ↦ (e, same_place variables b c e)
    | inr ne ↦ elim (cases_lt one other) [
      | inl below ↦ absurd (no_break_before variables c b below)
      | inr above ↦ absurd (no_break_before variables b c (omega arith))
    ]
  ]
