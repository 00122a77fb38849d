-- The section headers of an ELF64 file (System V ABI, "Sections"), and the rules that each meets by itself.
use Rattle.std.specs.Prelude.{ℕ, ◌+◌, ◌*◌, ◌≤◌, Bool, not, ◌&&◌, ◌||◌, ◌==◌, nat_lt, List, [], length, take, drop, if◌then◌else◌, bit_and}
use Rattle.std.specs.List.{range_with_len}
use Rattle.elf_objects.specs.Numbers.{sht_null, sht_nobits, shf_compressed}
use Rattle.elf_objects.specs.declared.section.Section.{Section}
use Rattle.elf_objects.specs.Breaks.{Test, row_tests}
use Rattle.elf_objects.specs.Fields.{u16_at, u32_at, u64_at}

-- e_shoff, e_shnum and e_shstrndx: where the section headers begin, how many there are, and which section holds their names
abbrev pub section_table : List ℕ → ℕ
section_table file = u64_at file 40

abbrev pub section_count : List ℕ → ℕ
section_count file = u16_at file 60

abbrev pub name_section : List ℕ → ℕ
name_section file = u16_at file 62

-- the file has its own header and, within its bytes, all section headers
pub record HasHeaders (file : List ℕ) : Type 0 where
  pub header : 64 ≤ length file
  pub sections : section_table file + 64 * section_count file ≤ length file

-- where the header of a section begins
abbrev pub header_place : List ℕ → ℕ → ℕ
header_place file number = section_table file + 64 * number

abbrev pub section : List ℕ → ℕ → Section
section file number = let place = header_place file number in record {
  name = u32_at file place;
  kind = u32_at file (place + 4);
  flags = u64_at file (place + 8);
  offset = u64_at file (place + 24);
  size = u64_at file (place + 32);
  link = u32_at file (place + 40);
  info = u32_at file (place + 44);
}

-- sh_entsize: how many bytes each entry of a table takes
abbrev pub entry_size : List ℕ → ℕ → ℕ
entry_size file number = u64_at file (header_place file number + 56)

-- the numbers of the sections, in order
abbrev pub section_numbers : List ℕ → List ℕ
section_numbers file = range_with_len 0 (section_count file)

-- whether there is a section of this number, and it is of this type
abbrev pub is_of_kind : List ℕ → ℕ → ℕ → Bool
is_of_kind file kind number = nat_lt number (section_count file) && ((section file number).kind == kind)

-- whether a section has bytes in the file, as each has that is neither null nor of type NOBITS
abbrev pub has_bytes : Section → Bool
has_bytes s = not (s.kind == sht_null || s.kind == sht_nobits)

-- the bytes of a section
abbrev pub content_of : List ℕ → Section → List ℕ
content_of file s = if has_bytes s then take s.size (drop s.offset file) else []

-- the tests of the section headers, by whether the section of a number breaks the rule
unfoldable pub header_tests : List ℕ → (ℕ → Bool) → List Test
header_tests file fails = row_tests (header_place file) fails (section_count file)

-- E13: the bytes of a section pass the file's end
unfoldable pub is_past_end : List ℕ → ℕ → Bool
is_past_end file number =
    let s = section file number in has_bytes s && nat_lt (length file) (s.offset + s.size)

abbrev pub section_past_end : List ℕ → List Test
section_past_end file = header_tests file (is_past_end file)

-- E15: a section is compressed (SHF_COMPRESSED)
unfoldable pub is_compressed : List ℕ → ℕ → Bool
is_compressed file number = not (bit_and (section file number).flags shf_compressed == 0)

abbrev pub compressed_section : List ℕ → List Test
compressed_section file = header_tests file (is_compressed file)
