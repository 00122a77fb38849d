-- What is given with one member more.
use Rattle.std.proofs.Common.{◌≡◌, ℕ, true, false, List, [], ◌∷◌, ◌++◌, codes, Some, None, Ok, Err, cond, unwrap_or, refl}
use Rattle.std.specs.Str.{bytes_eq}
use Rattle.map_store.specs.declared.spec.MapKind.{MapKind}
use Rattle.map_store.specs.declared.spec.MapSpec.{MapSpec}
use Rattle.run_config.specs.declared.map_definition.Given.{Given}
use Rattle.run_config.specs.Given.{given_by, is_contrary_given}
use Rattle.run_config.specs.MapDefinition.{is_contrary, kind_of, size_from, spec_from, spec_of}
use Rattle.run_config.specs.Values.{Named, last_value}
use Rattle.run_config.proofs.SettingsLemmas.{last_value-push}

-- a definition with one number more, as the reader changes it
pub given_by-push : (values : List Named) (name : List ℕ) (number : ℕ) → given_by (values ++ record { name = name; value = number } ∷ []) ≡ record {
  kind = cond (bytes_eq name (codes "type")) (Some number) (given_by values).kind;
  max_entries = cond (bytes_eq name (codes "max_entries")) (Some number) (given_by values).max_entries;
  key_size = cond (bytes_eq name (codes "key_size")) (Some number) (given_by values).key_size;
  value_size = cond (bytes_eq name (codes "value_size")) (Some number) (given_by values).value_size;
  map_flags = cond (bytes_eq name (codes "map_flags")) (Some number) (given_by values).map_flags;
  key = cond (bytes_eq name (codes "key")) (Some number) (given_by values).key;
  value = cond (bytes_eq name (codes "value")) (Some number) (given_by values).value;
}
unfolding given_by
given_by-push values name number = simp last_value-push

-- what is contrary, by what is given
pub is_contrary-given : (values : List Named) → is_contrary values ≡ is_contrary_given (given_by values)
unfolding is_contrary given_by
is_contrary-given values = refl

-- the map of what is given
abbrev pub spec_by : Given → MapKind → MapSpec
spec_by given kind = record {
  kind = kind;
  key_size = size_from given.key_size given.key;
  value_size = size_from given.value_size given.value;
  max_entries = unwrap_or given.max_entries 0;
  initial = [];
}

spec_from-given : (values : List Named) (kind : MapKind) → spec_from values kind ≡ spec_by (given_by values) kind
unfolding spec_from given_by
spec_from-given values kind = refl

number_given : (values : List Named) → unwrap_or (last_value (codes "type") values) 0 ≡ unwrap_or (given_by values).kind 0
unfolding given_by
number_given values = refl

-- what spec_of is, in each case
pub spec_of-contrary : (values : List Named) → is_contrary values ≡ true → spec_of values ≡ Err 4
unfolding spec_of
spec_of-contrary values h = rw h refl

pub spec_of-no_kind : (values : List Named) → is_contrary values ≡ false → kind_of (unwrap_or (given_by values).kind 0) ≡ None → spec_of values ≡ Err 5
unfolding spec_of
spec_of-no_kind values h k = rw (h, number_given values, k) refl

pub spec_of-kind : (values : List Named) (kind : MapKind) → is_contrary values ≡ false → kind_of (unwrap_or (given_by values).kind 0) ≡ Some kind → spec_of values ≡ Ok (spec_by (given_by values) kind)
unfolding spec_of
spec_of-kind values kind h k = rw (h, number_given values, k, spec_from-given values kind) refl

pub ruleset one_more = given_by-push
