-- The run configuration of a function, as libxdp writes it into an object: a variable of `.xdp_run_config`.
use Rattle.std.specs.Prelude.{◌≡◌, ℕ, ◌++◌, List, codes, find, take, slice_get, Option, Some, None, Result, Ok, Err}
use Rattle.std.specs.Str.{bytes_eq}
use Rattle.btf_types.specs.declared.types.Part.{Part}
use Rattle.btf_types.specs.declared.types.TypeRow.{TypeRow}
use Rattle.btf_types.specs.Kind.{STRUCT}
use Rattle.btf_types.specs.TypeTable.{TypeTable, name_at}
use Rattle.run_config.specs.declared.settings.RunConfig.{RunConfig}
use Rattle.run_config.specs.declared.config.BadConfig.{BadConfig}
use Rattle.btf_types.specs.Resolution.{Resolves}
use Rattle.run_config.specs.Values.{Named, Paired}
use Rattle.run_config.specs.Variables.{parts_of, variables}
use Rattle.run_config.specs.Settings.{Sets, config_from}

-- the first variable of the section that is named by an underscore and the function's name
unfoldable pub config_variable : TypeTable → List ℕ → Option TypeRow
config_variable types function =
    find (λ variable. bytes_eq (name_at types variable.name) (codes "_" ++ function)) (variables types (codes ".xdp_run_config"))

-- a type that is a structure, through modifiers
pub record IsStructure (types : TypeTable) (number : ℕ) (structure : TypeRow) : Type 0 where
  pub row : Resolves types number structure
  pub kind : structure.kind ≡ STRUCT

-- the place of the first member that sets nothing
pub record IsFirstBad (types : TypeTable) (members : List Part) (place : ℕ) : Type 0 where
  pub settings : List Named
  pub before : Paired (Sets types) (take place members) settings
  pub member : Part
  pub here : slice_get members place ≡ Some member
  pub bad : (setting : Named) → Sets types member setting → ⊥

-- what members set, all of which set something
pub record HasSettings (types : TypeTable) (members : List Part) (config : RunConfig) : Type 0 where
  pub settings : List Named
  pub each : Paired (Sets types) members settings
  pub value : config ≡ config_from settings

-- what the types say of a function's configuration
pub data IsConfig (types : TypeTable) (function : List ℕ) : Result RunConfig BadConfig → Type 0 where
  by_default : config_variable types function ≡ None → IsConfig types function (Ok (record { priority = 50; mask = 4 }))
  no_structure : {variable : TypeRow} → config_variable types function ≡ Some variable
      → ((structure : TypeRow) → IsStructure types variable.size_or_target structure → ⊥)
      → IsConfig types function (Err (record { member = 0 }))
  bad_member : {variable structure : TypeRow} {place : ℕ} → config_variable types function ≡ Some variable
      → IsStructure types variable.size_or_target structure → IsFirstBad types (parts_of types structure) place
      → IsConfig types function (Err (record { member = place }))
  by_members : {variable structure : TypeRow} {config : RunConfig} → config_variable types function ≡ Some variable
      → IsStructure types variable.size_or_target structure → HasSettings types (parts_of types structure) config
      → IsConfig types function (Ok config)
