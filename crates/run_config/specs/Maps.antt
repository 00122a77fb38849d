-- The maps of an object, by the variables of its section `.maps`, and the rules M1 to M10 that they keep.
use Rattle.std.specs.Prelude.{◌≡◌, ℕ, List, [], ◌∷◌, ◌++◌, map, take, slice_get, Some, Ok, Err}
use Rattle.btf_types.specs.declared.types.TypeRow.{TypeRow}
use Rattle.btf_types.specs.TypeTable.{TypeTable, name_at}
use Rattle.map_store.specs.declared.spec.MapSpec.{MapSpec}
use Rattle.map_store.specs.Initial.{AreMakeable}
use Rattle.run_config.specs.declared.named_map.NamedMap.{NamedMap}
use Rattle.run_config.specs.Values.{Paired}
use Rattle.run_config.specs.MapDefinition.{Defines}
use Rattle.run_config.specs.MapRules.{rule_behind}

-- what maps are made of
abbrev pub specs_of : List NamedMap → List MapSpec
specs_of maps = map (λ one. one.spec) maps

-- the map of a variable
pub record IsMap (types : TypeTable) (variable : TypeRow) (map : NamedMap) : Type 0 where
  pub name : map.name ≡ name_at types variable.name
  pub spec : Defines types variable.size_or_target (Ok map.spec)

-- the maps of variables, which keep all rules
pub record AreMaps (types : TypeTable) (variables : List TypeRow) (maps : List NamedMap) : Type 0 where
  pub each : Paired (IsMap types) variables maps
  pub makeable : AreMakeable (specs_of maps)

-- the first rule that a variable breaks behind these maps: 1 to 5 by its definition, 5 to 10 by its map
pub data Breaks (types : TypeTable) (before : List NamedMap) (variable : TypeRow) : ℕ → Type 0 where
  by_definition : {rule : ℕ} → Defines types variable.size_or_target (Err rule) → Breaks types before variable rule
  by_map : {map : NamedMap} {rule : ℕ} → IsMap types variable map → rule_behind (specs_of before) map.spec ≡ Some rule → Breaks types before variable rule

-- a map breaks a rule, and those before it keep all
pub record IsFirstBreak (types : TypeTable) (variables : List TypeRow) (index rule : ℕ) : Type 0 where
  pub maps : List NamedMap
  pub before : AreMaps types (take index variables) maps
  pub variable : TypeRow
  pub here : slice_get variables index ≡ Some variable
  pub breaks : Breaks types maps variable rule

-- the map of a variable stands behind others, and all keep the rules
pub record Pushes (types : TypeTable) (variable : TypeRow) (before maps : List NamedMap) : Type 0 where
  pub map : NamedMap
  pub is_map : IsMap types variable map
  pub behind : maps ≡ before ++ map ∷ []
  pub makeable : AreMakeable (specs_of maps)
