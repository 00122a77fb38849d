-- What an object keeps of its file.
use Rattle.std.specs.Prelude.{◌≡◌, ℕ, List, None}
use Rattle.elf_objects.specs.declared.section.Section.{Section}
use Rattle.elf_objects.specs.declared.symbol.Symbol.{Symbol}
use Rattle.elf_objects.specs.declared.reloc.Reloc.{Reloc}
use Rattle.elf_objects.specs.Names as names
use Rattle.elf_objects.specs.Symbol as symbol
use Rattle.elf_objects.specs.Object as object
use Rattle.elf_objects.specs.RelocTables as tables

pub record IsRead (file : List ℕ) (sections : List Section) (section_names : List ℕ) (symbols : List Symbol) (symbol_names : List ℕ) (relocs : List (List Reloc)) : Type 0 where
  pub unbroken : object.first_break file ≡ None
  pub has_sections : sections ≡ object.sections file
  pub has_section_names : section_names ≡ names.section_names file
  pub has_symbols : symbols ≡ object.symbols file
  pub has_symbol_names : symbol_names ≡ symbol.symbol_names file
  pub has_relocs : relocs ≡ tables.reloc_tables file
