-- How the relocations of a file are kept: those at the places 0, 16, 32 .. of the file, those at 1, 17, 33 .., and so on, but only
-- where a REL section begins at one of these places.
use Rattle.std.specs.Prelude.{ℕ, ◌-◌, ◌/◌, ◌%◌, Bool, ◌&&◌, ◌==◌, List, length, map, if◌then◌else◌}
use Rattle.std.specs.List.{list_any, range_with_len}
use Rattle.elf_objects.specs.Numbers.{sht_rel}
use Rattle.elf_objects.specs.declared.section.Section.{Section}
use Rattle.elf_objects.specs.declared.reloc.Reloc.{Reloc}
use Rattle.elf_objects.specs.Reloc.{relocs_at}
use Rattle.elf_objects.specs.Object.{sections}

-- whether a section is a REL that begins at a place with this remainder
abbrev pub has_relocs_from : ℕ → Section → Bool
has_relocs_from remainder s = s.kind == sht_rel && s.offset % 16 == remainder

-- how many relocations are kept of those at the places with a remainder
abbrev pub table_length : List ℕ → ℕ → ℕ
table_length file remainder =
    if list_any (has_relocs_from remainder) (sections file) then (length file - remainder) / 16 else 0

unfoldable pub reloc_table : List ℕ → ℕ → List Reloc
reloc_table file remainder = relocs_at file remainder (table_length file remainder)

abbrev pub reloc_tables : List ℕ → List (List Reloc)
reloc_tables file = map (reloc_table file) (range_with_len 0 16)
