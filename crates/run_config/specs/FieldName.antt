-- The names of the members of a map's definition.
use Rattle.std.specs.Prelude.{ℕ, List, codes}
use Rattle.run_config.specs.declared.map_member.Field.{Field}
use Rattle.run_config.specs.declared.map_member.Field.TheVariants.{Kind, MaxEntries, KeySize, ValueSize, MapFlags, Pinning, Key, Value}

abbrev pub field_name : Field → List ℕ
field_name Kind = codes "type"
field_name MaxEntries = codes "max_entries"
field_name KeySize = codes "key_size"
field_name ValueSize = codes "value_size"
field_name MapFlags = codes "map_flags"
field_name Pinning = codes "pinning"
field_name Key = codes "key"
field_name Value = codes "value"
