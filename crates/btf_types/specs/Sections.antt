-- The header and the two sections that it names: BPF Type Format (Linux kernel documentation, bpf/btf), section 2.
use Rattle.std.specs.Prelude.{ℕ, zero, suc, ◌+◌, ◌-◌, List, [], ◌∷◌, slice_range}
use Rattle.btf_types.specs.TypeBytes.{word_at, type_length}

-- the offsets of both sections count from the header's end
abbrev pub header_end : List ℕ → ℕ
header_end bytes = word_at bytes 4

abbrev pub types_start : List ℕ → ℕ
types_start bytes = header_end bytes + word_at bytes 8

abbrev pub types_end : List ℕ → ℕ
types_end bytes = types_start bytes + word_at bytes 12

abbrev pub strings_start : List ℕ → ℕ
strings_start bytes = header_end bytes + word_at bytes 16

abbrev pub strings_end : List ℕ → ℕ
strings_end bytes = strings_start bytes + word_at bytes 20

unfoldable pub type_section : List ℕ → List ℕ
type_section bytes = slice_range bytes (types_start bytes) (types_end bytes)

unfoldable pub strings_of : List ℕ → List ℕ
strings_of bytes = slice_range bytes (strings_start bytes) (strings_end bytes)

-- the types in bytes of which so many at the front still belong to a type before: one begins behind those,
-- and one right behind the bytes of each. A type is given by the bytes from its first on.
abbrev pub types_behind : ℕ → List ℕ → List (List ℕ)
types_behind passed [] = []
types_behind (suc passed) (b ∷ bytes) = types_behind passed bytes
types_behind zero (b ∷ bytes) = (b ∷ bytes) ∷ types_behind (type_length (b ∷ bytes) - 1) bytes

-- all types of a section
abbrev pub types_in : List ℕ → List (List ℕ)
types_in section = types_behind 0 section
