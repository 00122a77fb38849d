-- The kinds of types by their numbers: BPF Type Format (Linux kernel documentation, bpf/btf), section 2.2.
use Rattle.std.specs.Prelude.{ℕ, Bool, ◌==◌, ◌&&◌, nat_le, List, [], ◌∷◌, if◌then◌else◌}
use Rattle.std.specs.List.{list_any}

abbrev pub INT : ℕ
INT = 1

abbrev pub PTR : ℕ
PTR = 2

abbrev pub ARRAY : ℕ
ARRAY = 3

abbrev pub STRUCT : ℕ
STRUCT = 4

abbrev pub UNION : ℕ
UNION = 5

abbrev pub ENUM : ℕ
ENUM = 6

abbrev pub FWD : ℕ
FWD = 7

abbrev pub TYPEDEF : ℕ
TYPEDEF = 8

abbrev pub VOLATILE : ℕ
VOLATILE = 9

abbrev pub CONST : ℕ
CONST = 10

abbrev pub RESTRICT : ℕ
RESTRICT = 11

abbrev pub FUNC : ℕ
FUNC = 12

abbrev pub FUNC_PROTO : ℕ
FUNC_PROTO = 13

abbrev pub VAR : ℕ
VAR = 14

abbrev pub DATASEC : ℕ
DATASEC = 15

abbrev pub FLOAT : ℕ
FLOAT = 16

abbrev pub DECL_TAG : ℕ
DECL_TAG = 17

abbrev pub TYPE_TAG : ℕ
TYPE_TAG = 18

abbrev pub ENUM64 : ℕ
ENUM64 = 19

abbrev pub is_one_of : List ℕ → ℕ → Bool
is_one_of kinds kind = list_any (λ one. kind == one) kinds

unfoldable pub is_known : ℕ → Bool
is_known kind = nat_le INT kind && nat_le kind ENUM64

-- the bytes of each entry: of a member, a variable of a section, an enumerator or a parameter
unfoldable pub entry_width : ℕ → ℕ
entry_width kind =
    if is_one_of (STRUCT ∷ UNION ∷ DATASEC ∷ ENUM64 ∷ []) kind then 12
    else if is_one_of (ENUM ∷ FUNC_PROTO ∷ []) kind then 8
    else 0

-- the bytes behind the first twelve of a type without entries
unfoldable pub tail_width : ℕ → ℕ
tail_width kind =
    if kind == ARRAY then 12
    else if is_one_of (INT ∷ VAR ∷ DECL_TAG ∷ []) kind then 4
    else 0

-- members, enumerators and parameters begin with their names
unfoldable pub names_entries : ℕ → Bool
names_entries kind = is_one_of (STRUCT ∷ UNION ∷ ENUM ∷ FUNC_PROTO ∷ ENUM64 ∷ []) kind

-- the third number of these is another type's
abbrev pub has_target : ℕ → Bool
has_target kind =
    is_one_of (PTR ∷ TYPEDEF ∷ VOLATILE ∷ CONST ∷ RESTRICT ∷ FUNC ∷ FUNC_PROTO ∷ VAR ∷ DECL_TAG ∷ TYPE_TAG ∷ []) kind
