-- The variables of a section of data: BPF Type Format (Linux kernel documentation, bpf/btf), section 2.2.
use Rattle.std.specs.Prelude.{ℕ, ◌==◌, List, [], Option, Some, None, take, drop, option_and_then, if◌then◌else◌}
use Rattle.std.specs.List.{filter_map}
use Rattle.std.specs.Option.{option_map_or}
use Rattle.btf_types.specs.declared.types.Part.{Part}
use Rattle.btf_types.specs.declared.types.TypeRow.{TypeRow}
use Rattle.btf_types.specs.Kind.{VAR}
use Rattle.btf_types.specs.TypeTable.{TypeTable, section_vars, type_at}

-- the parts of a type in order: the members of a structure, the entries of a section
unfoldable pub parts_of : TypeTable → TypeRow → List Part
parts_of types row = take row.count (drop row.first types.parts)

-- the variable of an entry; an entry of another kind has none
abbrev pub variable_from : Option TypeRow → Option TypeRow
variable_from None = None
variable_from (Some row) = if row.kind == VAR then Some row else None

unfoldable pub variable_of : TypeTable → Part → Option TypeRow
variable_of types entry = variable_from (type_at types entry.target)

-- the first section of a name
unfoldable pub section_of : TypeTable → List ℕ → Option TypeRow
section_of types name = option_and_then (type_at types) (section_vars types name)

-- its variables in order; none where there is no such section
unfoldable pub variables : TypeTable → List ℕ → List TypeRow
variables types name =
    option_map_or (λ section. filter_map (variable_of types) (parts_of types section)) (section_of types name) []
