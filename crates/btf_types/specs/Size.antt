-- The sizes of types, on the graph of their references.
use Rattle.std.specs.Prelude.{◌≡◌, ℕ, ◌*◌, ◌<◌, ◌^◌, Bool, ◌==◌, [], ◌∷◌, slice_get, Option, Some, None, if◌then◌else◌}
use Rattle.btf_types.specs.declared.types.TypeRow.{TypeRow}
use Rattle.btf_types.specs.declared.types.Part.{Part}
use Rattle.btf_types.specs.declared.size.Sizing.{Sizing}
use Rattle.btf_types.specs.declared.size.Sizing.TheVariants.{Own, OfTarget, OfElements, Absent}
use Rattle.btf_types.specs.Kind.{INT, PTR, ARRAY, STRUCT, UNION, ENUM, TYPEDEF, VOLATILE, CONST, RESTRICT, VAR, DATASEC, FLOAT, TYPE_TAG, ENUM64, is_one_of}
use Rattle.btf_types.specs.TypeTable.{TypeTable, type_at}

-- of a kind with a size field, whose size it is
abbrev pub has_size : ℕ → Bool
has_size kind = is_one_of (INT ∷ STRUCT ∷ UNION ∷ ENUM ∷ FLOAT ∷ DATASEC ∷ ENUM64 ∷ []) kind

-- of a kind that has the size of its target
abbrev pub has_size_of_target : ℕ → Bool
has_size_of_target kind = is_one_of (TYPEDEF ∷ VOLATILE ∷ CONST ∷ RESTRICT ∷ TYPE_TAG ∷ VAR ∷ []) kind

-- an array's size is that of so many elements
abbrev pub sizing_of_elements : Option Part → Sizing
sizing_of_elements None = Absent
sizing_of_elements (Some part) = OfElements part.place part.target

abbrev pub sizing_of_row : TypeTable → Option TypeRow → Sizing
sizing_of_row types None = Absent
sizing_of_row types (Some row) =
    if has_size row.kind then Own row.size_or_target
    else if row.kind == PTR then Own 8
    else if row.kind == ARRAY then sizing_of_elements (slice_get types.parts row.first)
    else if has_size_of_target row.kind then OfTarget row.size_or_target
    else Absent

-- by what a type has its size
unfoldable pub sizing : TypeTable → ℕ → Sizing
sizing types number = sizing_of_row types (type_at types number)

-- the size of a type in bytes; all sizes are below 2 ^ 32
pub data HasSize (types : TypeTable) : ℕ → ℕ → Type 0 where
  own : {number size : ℕ} → sizing types number ≡ Own size → size < 2 ^ 32 → HasSize types number size
  of_target : {number target size : ℕ} → sizing types number ≡ OfTarget target → HasSize types target size → HasSize types number size
  of_elements : {number count element size : ℕ} → sizing types number ≡ OfElements count element → HasSize types element size → count * size < 2 ^ 32 → HasSize types number (count * size)

-- the type by which a type has its size
abbrev pub referred : Sizing → Option ℕ
referred (OfTarget target) = Some target
referred (OfElements count element) = Some element
referred _ = None

abbrev pub RefersTo : TypeTable → ℕ → ℕ → Type 0
RefersTo types number other = referred (sizing types number) ≡ Some other

-- what is met by following the references from a type, the type itself among it
pub data Meets (types : TypeTable) : ℕ → ℕ → Type 0 where
  itself : {number : ℕ} → Meets types number number
  further : {number next met : ℕ} → RefersTo types number next → Meets types next met → Meets types number met

-- following the references from a type meets one type twice
pub record IsEndless (types : TypeTable) (number : ℕ) : Type 0 where
  pub met : ℕ
  pub next : ℕ
  pub once : Meets types number met
  pub refers : RefersTo types met next
  pub again : Meets types next met
