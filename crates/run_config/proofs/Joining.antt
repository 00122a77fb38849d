-- What members give with one more.
use Rattle.std.proofs.Common.{◌≡◌, ℕ, List, [], ◌∷◌, ◌++◌, Ok}
use Rattle.btf_types.specs.declared.types.Part.{Part}
use Rattle.btf_types.specs.TypeTable.{TypeTable}
use Rattle.run_config.specs.declared.map_definition.Given.{Given}
use Rattle.run_config.specs.declared.map_member.Field.{Field}
use Rattle.run_config.specs.FieldName.{field_name}
use Rattle.run_config.specs.Given.{given_by, IsGiven}
use Rattle.run_config.specs.MapMembers.{Reads}
use Rattle.run_config.specs.Values.{Named}
use Rattle.run_config.proofs.MapReading.{kept_kept, read_none}

pub given_kept : (types : TypeTable) (members : List Part) (one : Part) (given : Given) (field : Field) (number : ℕ) (after : Given) → ((values : List Named) → given ≡ given_by values → after ≡ given_by (values ++ record { name = field_name field; value = number } ∷ [])) → IsGiven types members given → Reads types one (Ok (record { name = field_name field; value = number })) → IsGiven types (members ++ one ∷ []) after
given_kept types members one given field number after step g r = record {
  values = g.values ++ record { name = field_name field; value = number } ∷ [];
  reads = kept_kept types g.reads r;
  is = step g.values g.is;
}

pub given_none : (types : TypeTable) (given : Given) → given ≡ given_by [] → IsGiven types [] given
given_none types given e = record { values = []; reads = read_none types; is = e }
