-- The header of an ELF64 file (System V ABI, "ELF Header"), and the rules that it meets.
use Rattle.std.specs.Prelude.{ℕ, ◌+◌, ◌*◌, Bool, not, ◌||◌, ◌==◌, nat_lt, nat_le, List, [], ◌∷◌, length, slice_index}
use Rattle.elf_objects.specs.Numbers.{sht_strtab, shn_loreserve, elf_magic, elfclass64, elfdata2lsb, ev_current, et_rel, em_bpf}
use Rattle.elf_objects.specs.Breaks.{Test}
use Rattle.elf_objects.specs.Fields.{u16_at, u32_at}
use Rattle.elf_objects.specs.Section.{section_table, section_count, name_section, is_of_kind}

-- a rule that is tested at one place alone
abbrev pub test_at : ℕ → Bool → List Test
test_at place is_broken = (place, is_broken) ∷ []

-- E1 to E12, in their order
abbrev pub header_rules : List ℕ → List (List Test)
header_rules file =
    test_at 0 (nat_lt (length file) 64)
    ∷ test_at 0 (not (u32_at file 0 == elf_magic))
    ∷ test_at 4 (not (slice_index file 4 == elfclass64))
    ∷ test_at 5 (not (slice_index file 5 == elfdata2lsb))
    ∷ test_at 6 (not (slice_index file 6 == ev_current))
    ∷ test_at 16 (not (u16_at file 16 == et_rel))
    ∷ test_at 18 (not (u16_at file 18 == em_bpf))
    ∷ test_at 20 (not (u32_at file 20 == ev_current))
    -- section headers of 64 bytes; some, and fewer than the reserved numbers; within the file; their names in a STRTAB
    ∷ test_at 58 (not (u16_at file 58 == 64))
    ∷ test_at 60 (section_count file == 0 || nat_le shn_loreserve (section_count file))
    ∷ test_at 40 (nat_lt (length file) (section_table file + 64 * section_count file))
    ∷ test_at 62 (not (is_of_kind file sht_strtab (name_section file)))
    ∷ []
