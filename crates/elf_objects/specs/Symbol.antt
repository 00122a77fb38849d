-- The symbols of an ELF64 file (System V ABI, "Symbol Table"), and their rules.
use Rattle.std.specs.Prelude.{ℕ, ◌+◌, ◌*◌, ◌/◌, ◌%◌, Bool, not, ◌&&◌, ◌||◌, ◌==◌, nat_lt, nat_le, List, slice_index, Option, unwrap_or}
use Rattle.std.specs.List.{find}
use Rattle.std.specs.Option.{option_map_or}
use Rattle.elf_objects.specs.Numbers.{sht_symtab, sht_strtab, shn_loreserve}
use Rattle.elf_objects.specs.declared.section.Section.{Section}
use Rattle.elf_objects.specs.declared.symbol.Symbol.{Symbol}
use Rattle.elf_objects.specs.Breaks.{Test, row_tests}
use Rattle.elf_objects.specs.Fields.{u16_at, u32_at, u64_at}
use Rattle.elf_objects.specs.Section.{section, section_count, section_numbers, entry_size, is_of_kind, content_of, header_tests}
use Rattle.elf_objects.specs.Names.{has_name}

-- the number of the first section of type SYMTAB
unfoldable pub symbol_table : List ℕ → Option ℕ
symbol_table file = find (is_of_kind file sht_symtab) (section_numbers file)

-- the header of section 0, which is that of no section
abbrev pub null_section : Section
null_section = record { name = 0; kind = 0; flags = 0; offset = 0; size = 0; link = 0; info = 0 }

-- the symbol table's header, or that of no section
abbrev pub symbol_section : List ℕ → Section
symbol_section file = option_map_or (section file) (symbol_table file) null_section

abbrev pub symbol_count : List ℕ → ℕ
symbol_count file = (symbol_section file).size / 24

-- where a symbol stands
abbrev pub symbol_place : List ℕ → ℕ → ℕ
symbol_place file index = (symbol_section file).offset + 24 * index

abbrev pub symbol_at : List ℕ → ℕ → Symbol
symbol_at file place = record {
  name = u32_at file place;
  info = slice_index file (place + 4);
  section = u16_at file (place + 6);
  value = u64_at file (place + 8);
  size = u64_at file (place + 16);
}

abbrev pub symbol : List ℕ → ℕ → Symbol
symbol file index = symbol_at file (symbol_place file index)

-- the table of the symbols' names
abbrev pub symbol_names : List ℕ → List ℕ
symbol_names file = content_of file (section file (symbol_section file).link)

-- E16: a second symbol table; one whose entries aren't of 24 bytes, which isn't of whole entries, or whose names aren't in a STRTAB
unfoldable pub is_bad_symbol_table : List ℕ → ℕ → Bool
is_bad_symbol_table file number =
    let s = section file number in
    s.kind == sht_symtab && (nat_lt (unwrap_or (symbol_table file) number) number || not (entry_size file number == 24)
    || not (s.size % 24 == 0) || not (is_of_kind file sht_strtab s.link))

abbrev pub bad_symbol_table : List ℕ → List Test
bad_symbol_table file = header_tests file (is_bad_symbol_table file)

-- the tests of the symbols, by whether the symbol of an index breaks the rule
unfoldable pub symbol_tests : List ℕ → (ℕ → Bool) → List Test
symbol_tests file fails = row_tests (symbol_place file) fails (symbol_count file)

-- E17: a symbol's name isn't in its table up to a zero byte
unfoldable pub is_unnamed_symbol : List ℕ → ℕ → Bool
is_unnamed_symbol file index = not (has_name (symbol_names file) (symbol file index).name)

abbrev pub unnamed_symbol : List ℕ → List Test
unnamed_symbol file = symbol_tests file (is_unnamed_symbol file)

-- E18: a symbol's section is no section of the file and no reserved number
unfoldable pub is_astray : List ℕ → ℕ → Bool
is_astray file index =
    let section = (symbol file index).section in nat_le (section_count file) section && nat_lt section shn_loreserve

abbrev pub astray_symbol : List ℕ → List Test
astray_symbol file = symbol_tests file (is_astray file)
