-- How many sections and symbols there are.
use Rattle.std.proofs.Common.{◌≡◌, ℕ, List, length}
use Rattle.std.proofs.lemmas.List.FromFn.{length-map-range_with_len}
use Rattle.elf_objects.specs.Object.{sections, symbols}
use Rattle.elf_objects.specs.Section.{section, section_count}
use Rattle.elf_objects.specs.Symbol.{symbol, symbol_count}

pub sections_counted : (file : List ℕ) → length (sections file) ≡ section_count file
sections_counted file = length-map-range_with_len (section file) 0 (section_count file)

pub symbols_counted : (file : List ℕ) → length (symbols file) ≡ symbol_count file
symbols_counted file = length-map-range_with_len (symbol file) 0 (symbol_count file)
