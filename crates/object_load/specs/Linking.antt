-- What relocations make of a code (psABI of BPF: `Documentation/bpf/llvm_reloc.rst` of the kernel).
use Rattle.std.specs.Prelude.{ℕ, ℤ, pos, ◌+◌, ◌-◌, ◌*◌, ◌/◌, ◌%◌, ◌+ℤ◌, ◌-ℤ◌, int_le, int_lt, Bool, false, ◌==◌, ◌&&◌, not, nat_le, nat_lt, min, List, [], ◌∷◌, length, codes, find, position, slice_get, slice_set, filter_map, flat_map, Option, Some, None, ok_or, option_map, option_and_then, Result, Ok, Err, if◌then◌else◌}
use Rattle.std.specs.List.{list_any, range_with_len}
use Rattle.std.specs.Option.{option_map_or}
use Rattle.std.specs.Str.{bytes_eq}
use Rattle.bpf_insn.specs.declared.insn.Insn.{Insn}
use Rattle.bpf_insn.specs.declared.operation.Operation.TheVariants.{Call}
use Rattle.bpf_insn.specs.Operation.{opcode_of}
use Rattle.bpf_insn.specs.Form.{wide_load}
use Rattle.elf_objects.specs.declared.reloc.Reloc.{Reloc}
use Rattle.elf_objects.specs.declared.symbol.Symbol.{Symbol}
use Rattle.elf_objects.specs.Section.{section, section_numbers, section_count}
use Rattle.elf_objects.specs.Symbol.{symbol}
use Rattle.elf_objects.specs.Object.{relocs, section_name, symbol_name}
use Rattle.map_store.specs.Values.{values_start, map_room}
use Rattle.run_config.specs.declared.named_map.NamedMap.{NamedMap}
use Rattle.object_load.specs.declared.drafts.Draft.{Draft}
use Rattle.object_load.specs.declared.pieces.Piece.{Piece}
use Rattle.object_load.specs.declared.pieces.Piece.TheVariants.{Own, Text}
use Rattle.object_load.specs.declared.program.Program.{Program}
use Rattle.object_load.specs.Reading.{and_then}
use Rattle.object_load.specs.Sections.{has_name, constant_sections, text, text_section}

-- the relocations that a section holds for another one
unfoldable pub relocs_from : List ℕ → ℕ → ℕ → List Reloc
relocs_from file target number = if (section file number).info == target then relocs file number else []

-- the relocations for a section, in the order of the sections that hold them
unfoldable pub relocs_for : List ℕ → ℕ → List Reloc
relocs_for file target = flat_map (relocs_from file target) (section_numbers file)

-- Where a relocation is in a code, by its offset in the section of a piece. One past the end of `.text` is at the code's end, where no
-- instruction is; one outside a function's range is another function's.
unfoldable pub place_in : Piece → ℕ → Option ℕ
place_in (Own first size) offset = if nat_le first offset && nat_lt (offset - first) size then Some (offset - first) else None
place_in (Text start size) offset = Some (start + min offset size)

-- all places that it gives are below this one
abbrev pub bound_of : Piece → ℕ
bound_of (Own first size) = size
bound_of (Text start size) = start + size + 1

-- a place in a code, in bytes, and what is to be changed there
pub record Fix : Type 0 where
  pub place : ℕ
  pub reloc : Reloc

abbrev pub fix_at : Reloc → ℕ → Fix
fix_at reloc place = record { place = place; reloc = reloc }

abbrev pub fix_in : Piece → Reloc → Option Fix
fix_in piece reloc = option_map (fix_at reloc) (place_in piece reloc.offset)

unfoldable pub fixes_in : Piece → List Reloc → List Fix
fixes_in piece relocs = filter_map (fix_in piece) relocs

-- the pieces of a program's code
abbrev pub own_piece : Symbol → Piece
own_piece s = Own s.value s.size

abbrev pub text_piece : List ℕ → Symbol → Piece
text_piece file s = Text s.size (length (text file))

unfoldable pub own_fixes : List ℕ → Symbol → List Fix
own_fixes file s = fixes_in (own_piece s) (relocs_for file s.section)

unfoldable pub text_relocs : List ℕ → List Reloc
text_relocs file = option_map_or (relocs_for file) (text_section file) []

unfoldable pub text_fixes : List ℕ → Symbol → List Fix
text_fixes file s = fixes_in (text_piece file s) (text_relocs file)

-- R_BPF_64_64: the address of a map or of bytes in one
abbrev pub r_bpf_64_64 : ℕ
r_bpf_64_64 = 1

-- R_BPF_64_32: the distance to a function
abbrev pub r_bpf_64_32 : ℕ
r_bpf_64_32 = 10

-- what stands for a map in code
abbrev pub references_start : ℕ
references_start = 0x70000000

unfoldable pub is_wide_load : Insn → Bool
is_wide_load insn = (insn.opcode == wide_load) && (insn.source == 0)

-- a call of a function of the program
unfoldable pub is_local_call : Insn → Bool
is_local_call insn = (insn.opcode == opcode_of Call) && (insn.source == 1)

-- a symbol in a section of maps stands for the first map of its name
unfoldable pub map_reference : List ℕ → List NamedMap → ℕ → Option ℤ
map_reference file maps index =
    option_map (λ map. pos (references_start + map)) (position (λ map. bytes_eq map.name (symbol_name file index)) maps)

-- so many bytes behind the first of a map's only value, one past its last at most
unfoldable pub value_address : ℕ → NamedMap → ℤ → Option ℤ
value_address number map offset =
    if int_le (pos 0) offset && int_le offset (pos map.spec.value_size) then Some (pos (values_start + number * map_room) +ℤ offset) else None

abbrev pub address_in : List NamedMap → ℤ → ℕ → Option ℤ
address_in maps offset number = option_and_then (λ map. value_address number map offset) (slice_get maps number)

-- a symbol in a section of constants, whose maps are the last ones, stands for its bytes from its value and the immediate on
unfoldable pub constant_address : List NamedMap → List ℕ → Symbol → ℤ → Option ℤ
constant_address maps constants s imm =
    option_and_then (λ place. address_in maps (pos s.value +ℤ imm) (length maps - length constants + place))
    (position (λ number. number == s.section) constants)

-- a symbol in a section of maps
unfoldable pub is_in_maps : List ℕ → Symbol → Bool
is_in_maps file s = nat_lt s.section (section_count file) && has_name file (codes ".maps") s.section

unfoldable pub address : List ℕ → List NamedMap → ℕ → ℤ → Option ℤ
address file maps index imm =
    let s = symbol file index in
    if is_in_maps file s then map_reference file maps index else constant_address maps (constant_sections file) s imm

-- the slot of `.text` that a symbol and an immediate name
unfoldable pub target_slot : Symbol → ℤ → ℤ
target_slot s imm = (pos (s.value / 8) +ℤ imm) +ℤ pos 1

-- from the slot behind a call to that slot of `.text`, which stands behind so many others
unfoldable pub distance : List ℕ → ℕ → Symbol → ℕ → ℤ → Option ℤ
distance file own s slot imm =
    let target = target_slot s imm in
    if option_map_or (λ number. number == s.section) (text_section file) false && (s.value % 8 == 0)
    && int_le (pos 0) target && int_lt target (pos (length (text file) / 8))
    then Some (((pos own +ℤ target) -ℤ pos slot) -ℤ pos 1) else None

-- the new immediate of an instruction
unfoldable pub immediate : List ℕ → List NamedMap → ℕ → ℕ → Reloc → Insn → Option ℤ
immediate file maps own slot reloc insn =
    if (reloc.kind == r_bpf_64_64) && is_wide_load insn then address file maps reloc.symbol insn.imm
    else if (reloc.kind == r_bpf_64_32) && is_local_call insn then distance file own (symbol file reloc.symbol) slot insn.imm
    else None

unfoldable pub with_imm : List Insn → ℕ → ℤ → List Insn
with_imm insns slot imm = option_map_or (λ insn. slice_set insns slot (record insn { imm = imm })) (slice_get insns slot) insns

-- a new immediate, and 0 in the second slot of a wide load
unfoldable pub changed : List Insn → ℕ → Insn → ℤ → List Insn
changed insns slot insn imm =
    if is_wide_load insn then with_imm (with_imm insns slot imm) (slot + 1) (pos 0) else with_imm insns slot imm

abbrev pub changed_by : List ℕ → List NamedMap → ℕ → List Insn → ℕ → Reloc → Insn → Option (List Insn)
changed_by file maps own insns slot reloc insn =
    option_map (changed insns slot insn) (immediate file maps own slot reloc insn)

-- a code with one change, or the slot where it can't be made
unfoldable pub fixed : List ℕ → List NamedMap → ℕ → List Insn → Fix → Result (List Insn) ℕ
fixed file maps own insns fix =
    let slot = fix.place / 8 in
    ok_or (if fix.place % 8 == 0 then option_and_then (changed_by file maps own insns slot fix.reloc) (slice_get insns slot) else None) slot

-- a code with changes, one after another, or the first slot where one can't be made
abbrev pub fixed_all : List ℕ → List NamedMap → ℕ → List Insn → List Fix → Result (List Insn) ℕ
fixed_all file maps own insns [] = Ok insns
fixed_all file maps own insns (fix ∷ fixes) =
    and_then (fixed file maps own insns fix) (λ changed. fixed_all file maps own changed fixes)

-- some relocation changes a slot
unfoldable pub is_fixed : List Fix → ℕ → Bool
is_fixed fixes slot = list_any (λ fix. fix.place / 8 == slot) fixes

-- a call to a slot that is none of the first ones
unfoldable pub leaves : ℕ → ℕ → Insn → Bool
leaves own slot insn =
    let target = (pos slot +ℤ insn.imm) +ℤ pos 1 in
    is_local_call insn && not (int_le (pos 0) target && int_lt target (pos own))

-- a call out of the function in a slot that no relocation changes
unfoldable pub is_stray : Bool → List Insn → ℕ → ℕ → Bool
is_stray fixed insns own slot = not fixed && option_map_or (leaves own slot) (slice_get insns slot) false

unfoldable pub first_stray : List Fix → List Insn → ℕ → Option ℕ
first_stray fixes insns own = find (λ slot. is_stray (is_fixed fixes slot) insns own slot) (range_with_len 0 own)

abbrev pub refuse_at : Option ℕ → List Insn → Result (List Insn) ℕ
refuse_at None code = Ok code
refuse_at (Some slot) code = Err slot

-- the function's code, or the first slot at which it can't be linked
unfoldable pub linked : List ℕ → List NamedMap → Symbol → List Insn → Result (List Insn) ℕ
linked file maps s insns =
    let own = s.size / 8 in
    and_then (fixed_all file maps own insns (own_fixes file s)) (λ changed.
    and_then (fixed_all file maps own changed (text_fixes file s)) (λ code.
    refuse_at (first_stray (own_fixes file s) code own) code))

abbrev pub program_with : List ℕ → List NamedMap → Draft → List Insn → Program
program_with file maps draft code = record {
  name = symbol_name file draft.function.symbol;
  section = section_name file (symbol file draft.function.symbol).section;
  config = draft.function.config;
  code = record { insns = code; maps = length maps };
  maps = maps;
}

unfoldable pub program_of : List ℕ → List NamedMap → Draft → Result Program ℕ
program_of file maps draft =
    and_then (linked file maps (symbol file draft.function.symbol) draft.insns) (λ code. Ok (program_with file maps draft code))

-- what a change leaves of a code, or the slot where it failed
abbrev pub outcome : Result (Unit {0}) ℕ → List Insn → Result (List Insn) ℕ
outcome (Ok done) insns = Ok insns
outcome (Err slot) insns = Err slot
