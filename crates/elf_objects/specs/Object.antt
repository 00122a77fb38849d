-- What a relocatable BPF object says, as functions of its bytes, and which bytes are none.
use Rattle.std.specs.Prelude.{◌≡◌, ℕ, ◌-◌, ◌<◌, ◌≤◌, ◌⊎◌, true, Contains, slice_index_or, List, [], ◌∷◌, ◌++◌, map, Option}
use Rattle.std.specs.List.{range_with_len}
use Rattle.elf_objects.specs.declared.bad_elf.BadElf.{BadElf}
use Rattle.elf_objects.specs.declared.section.Section.{Section}
use Rattle.elf_objects.specs.declared.symbol.Symbol.{Symbol}
use Rattle.elf_objects.specs.declared.reloc.Reloc.{Reloc}
use Rattle.elf_objects.specs.Breaks.{Test, first_broken}
use Rattle.elf_objects.specs.Section.{section, section_numbers, section_past_end, compressed_section, content_of}
use Rattle.elf_objects.specs.Names.{name_at, section_names, unnamed_section}
use Rattle.elf_objects.specs.Header.{header_rules}
use Rattle.elf_objects.specs.Symbol.{symbol, symbol_count, symbol_names, bad_symbol_table, unnamed_symbol, astray_symbol}
use Rattle.elf_objects.specs.Reloc.{relocs_of, bad_reloc_table, missing_symbol}

-- E13 to E20, in their order
abbrev pub table_rules : List ℕ → List (List Test)
table_rules file =
    section_past_end file
    ∷ unnamed_section file
    ∷ compressed_section file
    ∷ bad_symbol_table file
    ∷ unnamed_symbol file
    ∷ astray_symbol file
    ∷ bad_reloc_table file
    ∷ missing_symbol file
    ∷ []

-- the rules E1 to E20, each as the tests of a file's places
abbrev pub rules : List ℕ → List (List Test)
rules file = header_rules file ++ table_rules file

-- the least rule that a file breaks, and the least place where it does
unfoldable pub first_break : List ℕ → Option BadElf
first_break file = first_broken 1 (rules file)

-- a file breaks a rule at a place
pub record IsBroken (file : List ℕ) (rule place : ℕ) : Type 0 where
  pub numbered : 1 ≤ rule
  pub tested : Contains (slice_index_or (rules file) (rule - 1) []) (place, true)

-- a break with no other before it: neither of a lesser rule nor of the same rule at a lesser place
pub record IsFirstBreak (file : List ℕ) (bad : BadElf) : Type 0 where
  pub broken : IsBroken file bad.rule bad.offset
  pub first : (rule place : ℕ) → IsBroken file rule place → (bad.rule < rule) ⊎ ((bad.rule ≡ rule) × (bad.offset ≤ place))

abbrev pub sections : List ℕ → List Section
sections file = map (section file) (section_numbers file)

abbrev pub symbols : List ℕ → List Symbol
symbols file = map (symbol file) (range_with_len 0 (symbol_count file))

-- the relocations that a section holds, its bytes, and its name
abbrev pub relocs : List ℕ → ℕ → List Reloc
relocs file number = relocs_of file (section file number)

abbrev pub content : List ℕ → ℕ → List ℕ
content file number = content_of file (section file number)

abbrev pub section_name : List ℕ → ℕ → List ℕ
section_name file number = name_at (section_names file) (section file number).name

abbrev pub symbol_name : List ℕ → ℕ → List ℕ
symbol_name file index = name_at (symbol_names file) (symbol file index).name
