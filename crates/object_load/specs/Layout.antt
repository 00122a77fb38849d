-- What relocations ask of an object beside its symbols.
use Rattle.std.specs.Prelude.{◌≡◌, ◌<◌, ℕ, List, All, length}
use Rattle.elf_objects.specs.Object.{sections, symbols}
use Rattle.object_load.specs.declared.layout.Layout.{Layout}
use Rattle.object_load.specs.Linking.{text_relocs}
use Rattle.object_load.specs.Sections.{constant_sections, text, text_section}

pub record IsLayout (file : List ℕ) (layout : Layout) : Type 0 where
  pub constants : layout.constants ≡ constant_sections file
  pub known_sections : All (λ number. number < length (sections file)) layout.constants
  pub has_text : layout.text ≡ text_section file
  pub has_size : layout.text_size ≡ length (text file)
  pub has_relocs : layout.text_relocs ≡ text_relocs file
  pub known_symbols : All (λ reloc. reloc.symbol < length (symbols file)) layout.text_relocs
