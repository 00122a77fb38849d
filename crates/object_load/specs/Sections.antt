-- The sections of an object by their names, and what they are for.
use Rattle.std.specs.Prelude.{ℕ, Bool, ◌==◌, ◌&&◌, ◌||◌, not, nat_eq, nat_lt, List, [], codes, ◌++◌, length, filter, find, bit_and, Option}
use Rattle.std.specs.List.{list_any, starts_with}
use Rattle.std.specs.Option.{option_map_or}
use Rattle.std.specs.Str.{bytes_eq}
use Rattle.elf_objects.specs.Numbers.{sht_progbits, shf_execinstr}
use Rattle.elf_objects.specs.Section.{section, section_numbers}
use Rattle.elf_objects.specs.Object.{content, section_name}

-- a section has this name
unfoldable pub has_name : List ℕ → List ℕ → ℕ → Bool
has_name file name number = bytes_eq (section_name file number) name

-- a section has this name, or one that goes on with a dot behind it
unfoldable pub is_under : List ℕ → List ℕ → ℕ → Bool
is_under file name number =
    bytes_eq (section_name file number) name || starts_with nat_eq (section_name file number) (name ++ codes ".")

-- the first section of a name
unfoldable pub section_named : List ℕ → List ℕ → Option ℕ
section_named file name = find (has_name file name) (section_numbers file)

-- a section of programs has bytes (PROGBITS) that are instructions (EXECINSTR), and a name that begins with `xdp`
unfoldable pub holds_programs : List ℕ → ℕ → Bool
holds_programs file number =
    ((section file number).kind == sht_progbits)
    && not (bit_and (section file number).flags shf_execinstr == 0)
    && starts_with nat_eq (section_name file number) (codes "xdp")

-- a section of data that programs could write
unfoldable pub is_writable : List ℕ → ℕ → Bool
is_writable file number =
    (is_under file (codes ".data") number || is_under file (codes ".bss") number) && not ((section file number).size == 0)

unfoldable pub has_writable_data : List ℕ → Bool
has_writable_data file = list_any (is_writable file) (section_numbers file)

-- a section of constants, which is a map
unfoldable pub holds_constants : List ℕ → ℕ → Bool
holds_constants file number = is_under file (codes ".rodata") number && nat_lt 0 (length (content file number))

unfoldable pub constant_sections : List ℕ → List ℕ
constant_sections file = filter (holds_constants file) (section_numbers file)

-- the section `.text`, whose functions programs call, and its bytes
unfoldable pub text_section : List ℕ → Option ℕ
text_section file = section_named file (codes ".text")

unfoldable pub text : List ℕ → List ℕ
text file = option_map_or (content file) (text_section file) []
