-- The type behind a type's modifiers: BPF Type Format (Linux kernel documentation, bpf/btf), section 2.2.
use Rattle.std.specs.Prelude.{◌≡◌, ℕ, Bool, true, false, [], ◌∷◌, Some}
use Rattle.btf_types.specs.declared.types.TypeRow.{TypeRow}
use Rattle.btf_types.specs.Kind.{TYPEDEF, VOLATILE, CONST, RESTRICT, TYPE_TAG, is_one_of}
use Rattle.btf_types.specs.TypeTable.{TypeTable, type_at}

unfoldable pub is_modifier : ℕ → Bool
is_modifier kind = is_one_of (TYPEDEF ∷ VOLATILE ∷ CONST ∷ RESTRICT ∷ TYPE_TAG ∷ []) kind

-- what a type is through modifiers: the first type that is none. Void is no type, and a loop of modifiers leads to none
pub data Resolves (types : TypeTable) : ℕ → TypeRow → Type 0 where
  here : {number : ℕ} {row : TypeRow} → type_at types number ≡ Some row → is_modifier row.kind ≡ false → Resolves types number row
  through : {number : ℕ} {modifier row : TypeRow} → type_at types number ≡ Some modifier → is_modifier modifier.kind ≡ true → Resolves types modifier.size_or_target row → Resolves types number row
