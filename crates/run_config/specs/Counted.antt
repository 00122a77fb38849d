-- Values in types, as libbpf's `__uint` writes them.
use Rattle.std.specs.Prelude.{◌≡◌, ℕ, Some, slice_get}
use Rattle.btf_types.specs.declared.types.Part.{Part}
use Rattle.btf_types.specs.declared.types.TypeRow.{TypeRow}
use Rattle.btf_types.specs.Kind.{ARRAY, PTR}
use Rattle.btf_types.specs.TypeTable.{TypeTable}
use Rattle.btf_types.specs.Resolution.{Resolves}

-- a pointer to an array of so many elements, each through modifiers
pub record Counts (types : TypeTable) (number value : ℕ) : Type 0 where
  pub pointer : TypeRow
  pub array : TypeRow
  pub elements : Part
  pub points : Resolves types number pointer
  pub is_pointer : pointer.kind ≡ PTR
  pub target : Resolves types pointer.size_or_target array
  pub is_array : array.kind ≡ ARRAY
  pub part : slice_get types.parts array.first ≡ Some elements
  pub count : elements.place ≡ value
