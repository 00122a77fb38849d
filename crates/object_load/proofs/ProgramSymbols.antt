-- What holds of a symbol that names a program.
use Rattle.std.proofs.Common.{◌≡◌, ℕ, ◌+◌, ◌%◌, ◌<◌, ◌≤◌, Bool, true, false, cond, not, ◌&&◌, ◌==◌, List, [], length, length-append, take, drop, Option, None, Some, refl, sym, ap, ◌∙◌, arith}
use Rattle.std.specs.Prelude.{bit_and, codes, nat_eq, nat_lt}
use Rattle.std.proofs.lemmas.Bool.Decides.{nat_tests}
use Rattle.std.proofs.lemmas.List.{length-drop, length-take-le}
use Rattle.std.specs.List.{find, starts_with}
use Rattle.std.specs.Option.{option_map}
use Rattle.elf_objects.specs.declared.symbol.Symbol.{Symbol}
use Rattle.elf_objects.specs.Section.{section, section_count, has_bytes}
use Rattle.elf_objects.specs.Symbol.{symbol, symbol_count, symbol_place}
use Rattle.elf_objects.specs.Object.{content, first_break, section_name, symbol_name}
use Rattle.elf_objects.specs.SymbolKind.{is_function}
use Rattle.elf_objects.proofs.Contents.{content_fits}
use Rattle.elf_objects.proofs.Search.{find_none, find_some}
use Rattle.elf_objects.proofs.Soundness.{sound}
use Rattle.object_load.specs.declared.refusal.LoadRefusal.TheVariants.{BadElf}
use Rattle.object_load.specs.Code.{code_bytes, function_bytes}
use Rattle.object_load.specs.Sections.{holds_programs, text}
use Rattle.object_load.specs.Symbols.{first_unsound, has_slots, is_program_name, is_sound, is_unsound, names_program, symbol_numbers, IsProgram}

both : (a b : Bool) → (a && b) ≡ true → (a ≡ true) × (b ≡ true)
both true b h = (refl, h)
both false b h = absurd (cc)

three : (a b c : Bool) → (a && b && c) ≡ true → (a ≡ true) × (b ≡ true) × (c ≡ true)
three true true c h = (refl, refl, h)
three true false c h = absurd (cc)
three false b c h = absurd (cc)

-- its section is there, and one of programs
in_section : (file : List ℕ) (index : ℕ) → names_program file index ≡ true → ((symbol file index).section < section_count file) × (holds_programs file (symbol file index).section ≡ true)
unfolding names_program
in_section file index is =
    let s = symbol file index in
    let parts = three (nat_lt s.section (section_count file)) (is_function s) (holds_programs file s.section) is in
    let known : nat_lt s.section (section_count file) ≡ true = parts.0 in
    (grind (arith, nat_tests), parts.2)

pub names-outside : (file : List ℕ) (index : ℕ) → section_count file ≤ (symbol file index).section → false ≡ names_program file index
unfolding names_program
names-outside file index outside =
    let s = symbol file index in
    let no : nat_lt s.section (section_count file) ≡ false = grind (arith, nat_tests) in
    sym (ap (λ b. b && is_function s && holds_programs file s.section) no)

pub names-function : (file : List ℕ) (index section : ℕ) → section ≡ (symbol file index).section → section < section_count file → is_function (symbol file index) ≡ true → holds_programs file section ≡ names_program file index
unfolding names_program
names-function file index section at within named =
    let s = symbol file index in
    let yes : nat_lt s.section (section_count file) ≡ true = grind (arith, nat_tests) in
    ap (holds_programs file) at
    ∙ sym (ap (λ b. b && is_function s && holds_programs file s.section) yes ∙ ap (λ b. true && b && holds_programs file s.section) named)

pub section_known : (file : List ℕ) (index : ℕ) → IsProgram file index → (symbol file index).section < section_count file
section_known file index program = (in_section file index program.program).0

slots_in : (file : List ℕ) (index : ℕ) → is_sound file index ≡ true → has_slots (symbol file index) (section file (symbol file index).section).size ≡ true
unfolding is_sound
slots_in file index is =
    (both (is_program_name (symbol_name file index)) (has_slots (symbol file index) (section file (symbol file index).section).size) is).1

pub record IsWhole (value size room : ℕ) : Type 0 where
  pub whole : size % 8 ≡ 0
  pub within : value + size ≤ room

whole_by : (s : Symbol) (room : ℕ) → has_slots s room ≡ true → IsWhole s.value s.size room
unfolding has_slots
whole_by s room is = record { whole = grind (arith, nat_tests); within = grind (arith, nat_tests) }

pub program_whole : (file : List ℕ) (index : ℕ) → IsProgram file index → IsWhole (symbol file index).value (symbol file index).size (section file (symbol file index).section).size
program_whole file index program = whole_by (symbol file index) (section file (symbol file index).section).size (slots_in file index program.sound)

is_progbits : (file : List ℕ) (number : ℕ) → holds_programs file number ≡ true → ((section file number).kind == 1) ≡ true
unfolding holds_programs
is_progbits file number is =
    (three ((section file number).kind == 1) (not (bit_and (section file number).flags 4 == 0)) (starts_with nat_eq (section_name file number) (codes "xdp")) is).0

has_its_bytes : (file : List ℕ) (number : ℕ) → ((section file number).kind == 1) ≡ true → has_bytes (section file number) ≡ true
has_its_bytes file number is = grind (arith, nat_tests)

content_length : (file : List ℕ) (number : ℕ) → first_break file ≡ None → number < section_count file → has_bytes (section file number) ≡ true → length (content file number) ≡ (section file number).size
content_length file number unbroken known bytes =
    let s = section file number in
    let fits = content_fits file number s (sound file unbroken).contents.contents known refl bytes in
    let left : s.size ≤ length (drop s.offset file) = omega (arith, length-drop s.offset file) in
    ap (λ b. length (cond b (take s.size (drop s.offset file)) [])) bytes ∙ length-take-le s.size (drop s.offset file) left

-- its bytes are in its section
pub function_within : (file : List ℕ) (index : ℕ) → first_break file ≡ None → IsProgram file index → (symbol file index).value + (symbol file index).size ≤ length (content file (symbol file index).section)
function_within file index unbroken program =
    let s = symbol file index in
    let place = in_section file index program.program in
    let bytes = has_its_bytes file s.section (is_progbits file s.section place.1) in
    let room = content_length file s.section unbroken place.0 bytes in
    let within = (program_whole file index program).within in
    omega arith

-- how long its code is
pub code_length : (file : List ℕ) (s : Symbol) → s.value + s.size ≤ length (content file s.section) → length (code_bytes file s) ≡ s.size + length (text file)
unfolding code_bytes function_bytes
code_length file s within =
    let bytes = drop s.value (content file s.section) in
    let left : s.size ≤ length bytes = omega (arith, length-drop s.value (content file s.section)) in
    length-append (take s.size bytes) (text file) ∙ ap (λ n. n + length (text file)) (length-take-le s.size bytes left)

-- a symbol that names a program and isn't unsound is a program
is_sound_too : (a b : Bool) → (a && not b) ≡ false → a ≡ true → b ≡ true
is_sound_too true true h is = refl
is_sound_too true false h is = absurd (cc)
is_sound_too false b h is = absurd (cc)

pub program_from : (file : List ℕ) (index : ℕ) → index < symbol_count file → is_unsound file index ≡ false → names_program file index ≡ true → IsProgram file index
unfolding is_unsound
program_from file index known fails is =
    record { known = known; program = is; sound = is_sound_too (names_program file index) (is_sound file index) fails is }

-- the first symbol that is unsound, as a loop finds it
unsound_by : (file : List ℕ) (found : Option ℕ) → find (is_unsound file) (symbol_numbers file) ≡ found → first_unsound file ≡ option_map (λ index. BadElf (record { offset = symbol_place file index; rule = 21 })) found
unfolding first_unsound
unsound_by file found is = ap (λ (o : Option ℕ). option_map (λ index. BadElf (record { offset = symbol_place file index; rule = 21 })) o) is

pub unsound_found : (file : List ℕ) (index place : ℕ) → index < symbol_count file → ((k : ℕ) → k < index → is_unsound file k ≡ false) → is_unsound file index ≡ true → place ≡ symbol_place file index → Some (BadElf (record { offset = place; rule = 21 })) ≡ first_unsound file
unsound_found file index place known passed here is =
    ap (λ at. Some (BadElf (record { offset = at; rule = 21 }))) is
    ∙ sym (unsound_by file (Some index) (find_some (is_unsound file) (symbol_count file) index passed known here))

pub unsound_none : (file : List ℕ) → ((k : ℕ) → k < symbol_count file → is_unsound file k ≡ false) → None ≡ first_unsound file
unsound_none file passed = sym (unsound_by file None (find_none (is_unsound file) (symbol_count file) passed))
