-- The types say one thing of a function's configuration.
use Rattle.std.proofs.Common.{◌≡◌, ℕ, ◌<◌, ◌↔◌, List, Some, Result, Ok, Err, MatchResult, refl, ap, sym, ◌∙◌, subst, inl, inr, arith}
use Rattle.std.proofs.lemmas.Bool.{cases_eq, cases_lt}
use Rattle.btf_types.specs.declared.types.Part.{Part}
use Rattle.btf_types.specs.declared.types.TypeRow.{TypeRow}
use Rattle.btf_types.specs.TypeTable.{TypeTable}
use Rattle.run_config.specs.declared.settings.RunConfig.{RunConfig}
use Rattle.run_config.specs.declared.config.BadConfig.{BadConfig}
use Rattle.run_config.specs.Config.{IsConfig, by_default, no_structure, bad_member, by_members, config_variable, HasSettings, IsFirstBad, IsStructure}
use Rattle.btf_types.specs.Resolution.{Resolves}
use Rattle.run_config.specs.Settings.{Sets, config_from}
use Rattle.run_config.specs.Values.{Named}
use Rattle.run_config.specs.Variables.{parts_of}
use Rattle.run_config.proofs.CountedLemmas.{counts-unique}
use Rattle.run_config.proofs.Pairing.{paired-at, paired-unique}
use Rattle.run_config.proofs.Parts.{slice_get-take}
use Rattle.btf_types.proofs.Resolving.{resolves-unique}

module _ (types : TypeTable) where
  sets-unique : (member : Part) (one other : Named) → Sets types member one → Sets types member other → one ≡ other
  sets-unique member one other s t =
      let with_name : List ℕ → Named = λ name. record { name = name; value = one.value } in
      let with_value : ℕ → Named = λ value. record { name = other.name; value = value } in
      ap with_name (s.name ∙ sym t.name) ∙ ap with_value (counts-unique types s.value t.value)

  -- no member in front of the first bad one is bad
  bad_behind : {members : List Part} {place first : ℕ} → IsFirstBad types members place → IsFirstBad types members first → first < place → ⊥
  bad_behind {members = members} {place = place} {first = first} b f below =
      let there = paired-at first b.before (slice_get-take members place first below ∙ f.here) in
      f.bad there.0 there.1

  bad-unique : {members : List Part} {one other : ℕ} → IsFirstBad types members one → IsFirstBad types members other → one ≡ other
  bad-unique {one = one} {other = other} b c = elim (cases_eq one other) [
    | inl e ↦ e
    | inr ne ↦ elim (cases_lt one other) [
      | inl below ↦ absurd (bad_behind c b below)
      | inr above ↦ absurd (bad_behind b c (omega arith))
    ]
  ]

  no_bad : {members : List Part} {place : ℕ} {config : RunConfig} → HasSettings types members config → IsFirstBad types members place → ⊥
  no_bad {place = place} h b = let there = paired-at place h.each b.here in b.bad there.0 there.1

  settings-unique : {members : List Part} {one other : RunConfig} → HasSettings types members one → HasSettings types members other → one ≡ other
  settings-unique h k = let same = paired-unique (sets-unique) h.each k.each in h.value ∙ ap config_from same ∙ sym k.value

  structure-unique : {number again : ℕ} {one other : TypeRow} → number ≡ again → IsStructure types number one → IsStructure types again other → one ≡ other
  structure-unique {one = one} e s t = resolves-unique types (subst (λ n. Resolves types n one) e s.row) t.row

module _ (types : TypeTable) (function : List ℕ) where
  pub config-unique : {one other : Result RunConfig BadConfig} → IsConfig types function one → IsConfig types function other → one ≡ other
  config-unique (by_default n) (by_default m) = refl
  config-unique (by_default n) (no_structure v s) = cc
  config-unique (by_default n) (bad_member v s b) = cc
  config-unique (by_default n) (by_members v s h) = cc
  config-unique (no_structure v none) (by_default m) = cc
  config-unique (no_structure v none) (no_structure w other) = refl
  config-unique (no_structure {variable = x} v none) (bad_member {variable = y} {structure = structure} w s b) =
      let same : y.size_or_target ≡ x.size_or_target = cc in
      absurd (none structure (subst (λ n. IsStructure types n structure) same s))
  config-unique (no_structure {variable = x} v none) (by_members {variable = y} {structure = structure} w s h) =
      let same : y.size_or_target ≡ x.size_or_target = cc in
      absurd (none structure (subst (λ n. IsStructure types n structure) same s))
  config-unique (bad_member v s b) (by_default m) = cc
  config-unique (bad_member {variable = x} {structure = structure} v s b) (no_structure {variable = y} w none) =
      let same : x.size_or_target ≡ y.size_or_target = cc in
      absurd (none structure (subst (λ n. IsStructure types n structure) same s))
  config-unique (bad_member {variable = x} {place = place} v s b) (bad_member {variable = y} w t c) =
      let same : x.size_or_target ≡ y.size_or_target = cc in
      let parts = ap (λ row. parts_of types row) (structure-unique types same s t) in
      let places = bad-unique types (subst (λ members. IsFirstBad types members place) parts b) c in
      let make : ℕ → Result RunConfig BadConfig = λ member. Err (record { member = member }) in
      ap make places
  config-unique (bad_member {variable = x} {place = place} v s b) (by_members {variable = y} w t h) =
      let same : x.size_or_target ≡ y.size_or_target = cc in
      let parts = ap (λ row. parts_of types row) (structure-unique types same s t) in
      absurd (no_bad types h (subst (λ members. IsFirstBad types members place) parts b))
  config-unique (by_members v s h) (by_default m) = cc
  config-unique (by_members {variable = x} {structure = structure} v s h) (no_structure {variable = y} w none) =
      let same : x.size_or_target ≡ y.size_or_target = cc in
      absurd (none structure (subst (λ n. IsStructure types n structure) same s))
  config-unique (by_members {variable = x} v s h) (bad_member {variable = y} {place = place} w t b) =
      let same : y.size_or_target ≡ x.size_or_target = cc in
      let parts = ap (λ row. parts_of types row) (structure-unique types same t s) in
      absurd (no_bad types h (subst (λ members. IsFirstBad types members place) parts b))
  config-unique (by_members {variable = x} {config = config} v s h) (by_members {variable = y} w t k) =
      let same : x.size_or_target ≡ y.size_or_target = cc in
      let parts = ap (λ row. parts_of types row) (structure-unique types same s t) in
      let make : RunConfig → Result RunConfig BadConfig = λ one. Ok one in
      ap make (settings-unique types (subst (λ members. HasSettings types members config) parts h) k)

  -- an answer that the types give is the answer
  pub exactly : {result : Result RunConfig BadConfig} → IsConfig types function result → (answer : Result RunConfig BadConfig) → (result ≡ answer) ↔ IsConfig types function answer
  exactly {result = result} is answer = ((λ e. subst (λ one. IsConfig types function one) e is), (λ other. config-unique is other))

  -- what the members of a configuration say is what the types say
  pub config_by : {variable structure : TypeRow} (result : Result RunConfig BadConfig) → config_variable types function ≡ Some variable → IsStructure types variable.size_or_target structure → MatchResult result (HasSettings types (parts_of types structure)) (λ bad. IsFirstBad types (parts_of types structure) bad.member) → IsConfig types function result
  config_by (Ok config) v s h = by_members v s h
  config_by (Err bad) v s b = bad_member v s b
