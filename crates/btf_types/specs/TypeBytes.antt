-- One type in its bytes: BPF Type Format (Linux kernel documentation, bpf/btf), section 2.2.
-- A type is given by the bytes from its first on, which go on behind its end.
use Rattle.std.specs.Prelude.{ℕ, suc, zero, ◌≤◌, IsTrue, ◌+◌, ◌*◌, ◌/◌, ◌%◌, ◌^◌, ◌==◌, List, [], ◌∷◌, drop, length, map, if◌then◌else◌}
use Rattle.byteorder.specs.Endian.{little_number}
use Rattle.btf_types.specs.declared.types.TypeRow.{TypeRow}
use Rattle.btf_types.specs.declared.types.Part.{Part}
use Rattle.btf_types.specs.Kind.{ARRAY, STRUCT, UNION, FUNC_PROTO, DATASEC, is_one_of, is_known, entry_width, tail_width, names_entries, has_target}

-- the number in the four bytes from a place on
unfoldable pub word_at : List ℕ → ℕ → ℕ
word_at bytes place = little_number 4 (drop place bytes)

-- bits 24 to 28 of the second number
unfoldable pub kind_of : List ℕ → ℕ
kind_of head = word_at head 4 / 2 ^ 24 % 2 ^ 5

-- its bits 0 to 15
unfoldable pub entry_count : List ℕ → ℕ
entry_count head = word_at head 4 % 2 ^ 16

unfoldable pub type_length : List ℕ → ℕ
type_length head = 12 + tail_width (kind_of head) + entry_width (kind_of head) * entry_count head

-- so many entries of so many bytes, each as the bytes from its first on
abbrev pub entries_from : ℕ → ℕ → List ℕ → List (List ℕ)
entries_from zero width bytes = []
entries_from (suc count) width bytes = bytes ∷ entries_from count width (drop width bytes)

abbrev pub entries_of : List ℕ → List (List ℕ)
entries_of head = entries_from (entry_count head) (entry_width (kind_of head)) (drop 12 head)

-- the names of a type: its own, and those of its members, enumerators and parameters
unfoldable pub names_of : List ℕ → List ℕ
names_of head =
    word_at head 0
    ∷ (if names_entries (kind_of head) then map (λ entry. word_at entry 0) (entries_of head) else [])

-- the types that a type refers to
unfoldable pub references_of : List ℕ → List ℕ
references_of head =
    if kind_of head == ARRAY then word_at head 12 ∷ word_at head 16 ∷ []
    else if is_one_of (STRUCT ∷ UNION ∷ []) (kind_of head) then map (λ entry. word_at entry 4) (entries_of head)
    else if kind_of head == DATASEC then map (λ entry. word_at entry 0) (entries_of head)
    else if kind_of head == FUNC_PROTO then word_at head 8 ∷ map (λ entry. word_at entry 4) (entries_of head)
    else if has_target (kind_of head) then word_at head 8 ∷ []
    else []

-- a member, by its name, its type and its place in bits
abbrev pub member : List ℕ → Part
member entry = record { name = word_at entry 0; target = word_at entry 4; place = word_at entry 8 }

-- a variable of a section, by its type and its place
abbrev pub variable : List ℕ → Part
variable entry = record { name = 0; target = word_at entry 0; place = word_at entry 4 }

-- the element type of an array, and how many elements there are
abbrev pub elements : List ℕ → Part
elements head = record { name = 0; target = word_at head 12; place = word_at head 20 }

abbrev pub part_of : ℕ → List ℕ → Part
part_of kind entry = if kind == DATASEC then variable entry else member entry

-- the parts of a type: its members or variables, or the elements of an array
unfoldable pub parts_of : List ℕ → List Part
parts_of head =
    if kind_of head == ARRAY then elements head ∷ []
    else if is_one_of (STRUCT ∷ UNION ∷ DATASEC ∷ []) (kind_of head) then map (part_of (kind_of head)) (entries_of head)
    else []

-- a type's row, whose parts stand from number first on
unfoldable pub row_of : ℕ → List ℕ → TypeRow
row_of first head = record {
  kind = kind_of head;
  name = word_at head 0;
  size_or_target = word_at head 8;
  first = first;
  count = length (parts_of head);
}

-- the type's bytes are there, and its kind is known
pub record IsWhole (head : List ℕ) : Type 0 where
  pub header : 12 ≤ length head
  pub kind : IsTrue (is_known (kind_of head))
  pub tail : type_length head ≤ length head
