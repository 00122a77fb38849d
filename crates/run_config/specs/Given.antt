-- What the members of a map's definition give, as the reader keeps it.
use Rattle.std.specs.Prelude.{◌≡◌, ℕ, ◌||◌, Bool, nat_lt, unwrap_or, List, codes, Result, Ok, Err, MatchResult}
use Rattle.btf_types.specs.declared.types.Part.{Part}
use Rattle.btf_types.specs.TypeTable.{TypeTable}
use Rattle.run_config.specs.declared.map_definition.Given.{Given}
use Rattle.run_config.specs.declared.map_member.Field.{Field}
use Rattle.run_config.specs.FieldName.{field_name}
use Rattle.run_config.specs.MapDefinition.{differ}
use Rattle.run_config.specs.MapMembers.{Reads, ReadsAll}
use Rattle.run_config.specs.Values.{Named, last_value}

unfoldable pub given_by : List Named → Given
given_by values = record {
  kind = last_value (codes "type") values;
  max_entries = last_value (codes "max_entries") values;
  key_size = last_value (codes "key_size") values;
  value_size = last_value (codes "value_size") values;
  map_flags = last_value (codes "map_flags") values;
  key = last_value (codes "key") values;
  value = last_value (codes "value") values;
}

-- a size differs from that of its type, or the flags are above 1
abbrev pub is_contrary_given : Given → Bool
is_contrary_given given =
    differ given.key_size given.key
    || differ given.value_size given.value
    || nat_lt 1 (unwrap_or given.map_flags 0)

-- a member gives so much, or breaks the rule
abbrev pub IsRead : TypeTable → Part → Result (Field × ℕ) ℕ → Type 0
IsRead types member result =
    MatchResult result
    (λ read. Reads types member (Ok (record { name = field_name read.0; value = read.1 })))
    (λ rule. Reads types member (Err rule))

pub record IsGiven (types : TypeTable) (members : List Part) (given : Given) : Type 0 where
  pub values : List Named
  pub reads : ReadsAll types members (Ok values)
  pub is : given ≡ given_by values

-- members give so much, or the least rule that one of them breaks is this one
abbrev pub AreGiven : TypeTable → List Part → Result Given ℕ → Type 0
AreGiven types members result = MatchResult result (IsGiven types members) (λ rule. ReadsAll types members (Err rule))
