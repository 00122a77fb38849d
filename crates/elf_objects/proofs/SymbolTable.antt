-- What holds of the symbol table where the rules before the symbols' own hold.
use Rattle.std.proofs.Common.{◌≡◌, ℕ, ◌+◌, ◌<◌, ◌≤◌, Bool, true, false, cond, List, [], ◌∷◌, Option, Some, None, length, refl, sym, ap, ◌∙◌, arith}
use Rattle.std.specs.List.{find}
use Rattle.std.specs.Option.{option_map_or}
use Rattle.std.proofs.lemmas.Bool.Decides.{nat_tests}
use Rattle.elf_objects.specs.declared.section.Section.{Section}
use Rattle.elf_objects.specs.Breaks.{first_place}
use Rattle.elf_objects.specs.Section.{section, section_count, section_numbers, is_of_kind, section_past_end}
use Rattle.elf_objects.specs.Names.{HasContents}
use Rattle.elf_objects.specs.Symbol.{symbol_table, symbol_section, null_section, is_bad_symbol_table, bad_symbol_table}
use Rattle.elf_objects.proofs.Contents.{content_fits}
use Rattle.elf_objects.proofs.Headers.{header_passes}

-- what is found passes the test
found_first : {X : Type 0} (test : X → Bool) (b : Bool) (y x : X) (rest : Option X) → test y ≡ b → (rest ≡ Some x → test x ≡ true) → cond b (Some y) rest ≡ Some x → test x ≡ true
found_first test true y x rest here later is = let e : y ≡ x = cc in ap test (sym e) ∙ here
found_first test false y x rest here later is = later is

found_passes : {X : Type 0} (test : X → Bool) (xs : List X) (x : X) → find test xs ≡ Some x → test x ≡ true
found_passes test [] x is = absurd (cc)
found_passes test (y ∷ ys) x is = found_first test (test y) y x (find test ys) refl (found_passes test ys x) is

table_kind : (file : List ℕ) (number : ℕ) → symbol_table file ≡ Some number → is_of_kind file 2 number ≡ true
unfolding symbol_table
table_kind file number is = found_passes (is_of_kind file 2) (section_numbers file) number is

-- what holds of no section, and of the symbol table's where there is one
of_table : (P : Section → Type 0) (file : List ℕ) (table : Option ℕ) → symbol_table file ≡ table → P null_section → ((number : ℕ) → is_of_kind file 2 number ≡ true → P (section file number)) → P (option_map_or (section file) table null_section)
of_table P file None is none some = none
of_table P file (Some number) is none some = some number (table_kind file number is)

pub symbols_within : (file : List ℕ) → first_place (section_past_end file) ≡ None → (symbol_section file).offset + (symbol_section file).size ≤ length file
symbols_within file inside = of_table (λ s. s.offset + s.size ≤ length file) file (symbol_table file) refl (omega arith)
    (λ number is. content_fits file number (section file number) inside (grind (arith, nat_tests)) refl (grind (arith, nat_tests)))

link_known : (file : List ℕ) (number : ℕ) → is_of_kind file 2 number ≡ true → is_bad_symbol_table file number ≡ false → (section file number).link < section_count file
unfolding is_bad_symbol_table
link_known file number is good = grind (arith, nat_tests)

pub names_known : (file : List ℕ) → HasContents file → first_place (bad_symbol_table file) ≡ None → (symbol_section file).link < section_count file
names_known file contents good = of_table (λ s. s.link < section_count file) file (symbol_table file) refl (let names = contents.names in grind (arith, nat_tests))
    (λ number is. link_known file number is (header_passes file (is_bad_symbol_table file) number good (grind (arith, nat_tests))))
