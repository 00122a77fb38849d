-- The relocations of an ELF64 file (System V ABI, "Relocation"), and their rules.
use Rattle.std.specs.Prelude.{ℕ, ◌+◌, ◌*◌, ◌/◌, ◌%◌, Bool, not, ◌&&◌, ◌||◌, ◌==◌, nat_lt, nat_le, List, [], map, if◌then◌else◌, bit_and}
use Rattle.std.specs.List.{flat_map, range_with_len}
use Rattle.elf_objects.specs.Numbers.{sht_symtab, sht_rela, sht_rel, shf_execinstr}
use Rattle.elf_objects.specs.declared.section.Section.{Section}
use Rattle.elf_objects.specs.declared.reloc.Reloc.{Reloc}
use Rattle.elf_objects.specs.Breaks.{Test, row_tests}
use Rattle.elf_objects.specs.Fields.{u32_at, u64_at}
use Rattle.elf_objects.specs.Section.{section, section_count, section_numbers, entry_size, is_of_kind, header_tests}
use Rattle.elf_objects.specs.Symbol.{symbol_count}

-- a relocation without addend (Elf64_Rel): of its info the low half is the type and the high half the symbol
abbrev pub reloc_at : List ℕ → ℕ → Reloc
reloc_at file place = record {
  offset = u64_at file place;
  symbol = u32_at file (place + 12);
  kind = u32_at file (place + 8);
}

-- so many relocations, one after another
unfoldable pub relocs_at : List ℕ → ℕ → ℕ → List Reloc
relocs_at file place count = map (λ index. reloc_at file (place + 16 * index)) (range_with_len 0 count)

-- the relocations that a section holds
abbrev pub relocs_of : List ℕ → Section → List Reloc
relocs_of file s = if s.kind == sht_rel then relocs_at file s.offset (s.size / 16) else []

-- E19: a REL whose entries aren't of 16 bytes, which isn't of whole entries, whose symbols aren't those of the symbol table, or
-- which names no section to change; a RELA for a section of code (SHF_EXECINSTR)
unfoldable pub is_bad_reloc_table : List ℕ → ℕ → Bool
is_bad_reloc_table file number =
    let s = section file number in
    let names_section = nat_lt s.info (section_count file) in
    (s.kind == sht_rel && (not (entry_size file number == 16) || not (s.size % 16 == 0) || not (is_of_kind file sht_symtab s.link) || not names_section))
    || (s.kind == sht_rela && names_section && not (bit_and (section file s.info).flags shf_execinstr == 0))

abbrev pub bad_reloc_table : List ℕ → List Test
bad_reloc_table file = header_tests file (is_bad_reloc_table file)

-- where a relocation of a section stands
abbrev pub reloc_place : List ℕ → ℕ → ℕ → ℕ
reloc_place file number index = (section file number).offset + 16 * index

-- E20: the symbol of the relocation at a place isn't there
unfoldable pub lacks_symbol : List ℕ → ℕ → Bool
lacks_symbol file place = nat_le (symbol_count file) (reloc_at file place).symbol

unfoldable pub reloc_tests : List ℕ → ℕ → List Test
reloc_tests file number =
    let s = section file number in
    let place = reloc_place file number in
    if s.kind == sht_rel then row_tests place (λ index. lacks_symbol file (place index)) (s.size / 16) else []

unfoldable pub missing_symbol : List ℕ → List Test
missing_symbol file = flat_map (reloc_tests file) (section_numbers file)
