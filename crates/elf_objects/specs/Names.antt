-- Tables of names (System V ABI, "String Table"): a name begins at a place of its table and ends before the next zero byte.
use Rattle.std.specs.Prelude.{◌≡◌, ℕ, Bool, true, not, ◌==◌, List, drop, None}
use Rattle.std.specs.List.{list_any, before_first}
use Rattle.elf_objects.specs.Numbers.{sht_strtab}
use Rattle.elf_objects.specs.Breaks.{Test, first_place}
use Rattle.elf_objects.specs.Section.{HasHeaders, section, name_section, is_of_kind, content_of, header_tests, section_past_end}

-- whether a zero byte ends the name that begins at this place
unfoldable pub has_name : List ℕ → ℕ → Bool
has_name table place = list_any (λ b. b == 0) (drop place table)

-- the name, without its zero byte
abbrev pub name_at : List ℕ → ℕ → List ℕ
name_at table place = before_first (λ b. b == 0) (drop place table)

-- the table of the sections' names
abbrev pub section_names : List ℕ → List ℕ
section_names file = content_of file (section file (name_section file))

-- the file has all headers, a section of names, and the bytes of each section
pub record HasContents (file : List ℕ) : Type 0 where
  pub headers : HasHeaders file
  pub names : is_of_kind file sht_strtab (name_section file) ≡ true
  pub contents : first_place (section_past_end file) ≡ None

-- E14: a section's name isn't in that table up to a zero byte
unfoldable pub is_unnamed : List ℕ → ℕ → Bool
is_unnamed file number = not (has_name (section_names file) (section file number).name)

abbrev pub unnamed_section : List ℕ → List Test
unnamed_section file = header_tests file (is_unnamed file)
