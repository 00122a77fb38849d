-- The first variable that passes a test.
use Rattle.std.proofs.Common.{◌≡◌, ℕ, Bool, true, false, List, [], ◌∷◌, ◌++◌, codes, find, Option, Some, None, refl}
use Rattle.std.specs.List.{filter_map}
use Rattle.std.specs.Str.{bytes_eq}
use Rattle.btf_types.specs.declared.types.Part.{Part}
use Rattle.btf_types.specs.declared.types.TypeRow.{TypeRow}
use Rattle.btf_types.specs.TypeTable.{TypeTable, name_at}
use Rattle.run_config.specs.Config.{config_variable}
use Rattle.run_config.specs.Variables.{parts_of, section_of, variable_of, variables}

-- named by an underscore and the function's name
abbrev pub is_for : TypeTable → List ℕ → TypeRow → Bool
is_for types function variable = bytes_eq (name_at types variable.name) (codes "_" ++ function)

abbrev pub first_among : TypeTable → (TypeRow → Bool) → List Part → Option TypeRow
first_among types test entries = find test (filter_map (variable_of types) entries)

module _ (types : TypeTable) (test : TypeRow → Bool) where
  pub first_among-other : (entries rest : List Part) (entry : Part) → entries ≡ entry ∷ rest → variable_of types entry ≡ None → first_among types test entries ≡ first_among types test rest
  first_among-other entries rest entry e none = rw (e, none) refl

  pub first_among-failed : (entries rest : List Part) (entry : Part) (variable : TypeRow) → entries ≡ entry ∷ rest → variable_of types entry ≡ Some variable → test variable ≡ false → first_among types test entries ≡ first_among types test rest
  first_among-failed entries rest entry variable e some fails = rw (e, some, fails) refl

  pub first_among-passed : (entries rest : List Part) (entry : Part) (variable : TypeRow) → entries ≡ entry ∷ rest → variable_of types entry ≡ Some variable → test variable ≡ true → first_among types test entries ≡ Some variable
  first_among-passed entries rest entry variable e some passes = rw (e, some, passes) refl

-- the variables of a section that is there, and of one that isn't
pub variables-some : (types : TypeTable) (name : List ℕ) (section : TypeRow) → section_of types name ≡ Some section → variables types name ≡ filter_map (variable_of types) (parts_of types section)
unfolding variables
variables-some types name section e = rw e refl

pub variables-none : (types : TypeTable) (name : List ℕ) → section_of types name ≡ None → variables types name ≡ []
unfolding variables
variables-none types name e = rw e refl

pub config_variable-some : (types : TypeTable) (function : List ℕ) (section : TypeRow) → section_of types (codes ".xdp_run_config") ≡ Some section → config_variable types function ≡ first_among types (is_for types function) (parts_of types section)
unfolding config_variable
config_variable-some types function section e = rw (variables-some types (codes ".xdp_run_config") section e) refl

pub config_variable-none : (types : TypeTable) (function : List ℕ) → section_of types (codes ".xdp_run_config") ≡ None → config_variable types function ≡ None
unfolding config_variable
config_variable-none types function e = rw (variables-none types (codes ".xdp_run_config") e) refl
