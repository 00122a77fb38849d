-- The rules B1 to B11 that bytes keep to be read, each with the place that is named for it.
use Rattle.std.specs.Prelude.{◌≡◌, MatchResult, Result, ℕ, ◌-◌, ◌%◌, Bool, not, ◌==◌, ◌&&◌, ◌||◌, nat_lt, nat_le, List, [], ◌∷◌, ◌++◌, map, length, slice_index, Option, Some, None, if◌then◌else◌}
use Rattle.std.specs.List.{list_all, flat_map}
use Rattle.byteorder.specs.Endian.{little_number}
use Rattle.btf_types.specs.declared.bad_btf.BadBtf.{BadBtf}
use Rattle.btf_types.specs.Kind.{is_known}
use Rattle.btf_types.specs.TypeBytes.{word_at, kind_of, type_length, names_of, references_of}
use Rattle.btf_types.specs.Sections.{header_end, types_end, strings_end, type_section, strings_of, types_in}

abbrev pub bad : ℕ → ℕ → BadBtf
bad rule place = record { offset = place; rule = rule }

-- of rules at places, each with whether it is broken there, the first that is broken
abbrev pub first_broken : List (Bool × BadBtf) → Option BadBtf
first_broken [] = None
first_broken (rule ∷ rules) = if rule.0 then Some rule.1 else first_broken rules

-- an error is the break that was found, and there is none where there is no break
abbrev pub RefusesAs : {X : Type 0} → Result X BadBtf → Option BadBtf → Type 0
RefusesAs result found = MatchResult result (λ _. found ≡ None) (λ bad. found ≡ Some bad)

-- strings aren't empty, and begin and end with a zero byte
unfoldable pub are_bounded : List ℕ → Bool
are_bounded strings =
    nat_lt 0 (length strings) && (slice_index strings 0 == 0) && (slice_index strings (length strings - 1) == 0)

-- the header: its length, magic, version, own length, types and strings
unfoldable pub header_rules : List ℕ → List (Bool × BadBtf)
header_rules bytes =
    (nat_lt (length bytes) 24, bad 1 0)
    ∷ (not (little_number 2 bytes == 0xEB9F), bad 2 0)
    ∷ (not (slice_index bytes 2 == 1), bad 3 2)
    ∷ (nat_lt (header_end bytes) 24 || nat_lt (length bytes) (header_end bytes), bad 4 4)
    ∷ (nat_lt (length bytes) (types_end bytes) || not (word_at bytes 8 % 4 == 0), bad 5 8)
    ∷ (nat_lt (length bytes) (strings_end bytes) || not (are_bounded (strings_of bytes)), bad 6 16)
    ∷ []

-- a type's place, by the bytes from its first to the end of the types
abbrev pub place_of : ℕ → List ℕ → ℕ
place_of end head = end - length head

-- a type that the walk meets: its first twelve bytes, its kind, its other bytes
unfoldable pub type_rules : ℕ → List ℕ → List (Bool × BadBtf)
type_rules place head =
    (nat_lt (length head) 12, bad 7 place)
    ∷ (not (is_known (kind_of head)), bad 8 place)
    ∷ (nat_lt (length head) (type_length head), bad 9 place)
    ∷ []

-- the walk over types that end at a place
abbrev pub walk_rules : ℕ → List (List ℕ) → List (Bool × BadBtf)
walk_rules end types = flat_map (λ head. type_rules (place_of end head) head) types

-- a name is outside so many bytes of strings
abbrev pub name_rule : ℕ → ℕ → List ℕ → Bool × BadBtf
name_rule strings place head = (not (list_all (λ name. nat_lt name strings) (names_of head)), bad 10 place)

abbrev pub name_rules : ℕ → ℕ → List (List ℕ) → List (Bool × BadBtf)
name_rules strings end types = map (λ head. name_rule strings (place_of end head) head) types

-- a reference is above the number of types
abbrev pub reference_rule : ℕ → ℕ → List ℕ → Bool × BadBtf
reference_rule count place head = (not (list_all (λ reference. nat_le reference count) (references_of head)), bad 11 place)

abbrev pub reference_rules : ℕ → ℕ → List (List ℕ) → List (Bool × BadBtf)
reference_rules count end types = map (λ head. reference_rule count (place_of end head) head) types

-- all rules at all places, by rule and then by place, but for the walk, which goes by place
unfoldable pub rules_of : List ℕ → List (Bool × BadBtf)
rules_of bytes =
    let end = types_end bytes in
    let types = types_in (type_section bytes) in
    header_rules bytes
    ++ walk_rules end types
    ++ name_rules (length (strings_of bytes)) end types
    ++ reference_rules (length types) end types

-- the first rule that the bytes break, with its first place
unfoldable pub first_break : List ℕ → Option BadBtf
first_break bytes = first_broken (rules_of bytes)
