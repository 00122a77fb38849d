-- What holds of a file that breaks no rule.
use Rattle.std.proofs.Common.{◌≡◌, ℕ, zero, suc, ◌<◌, ◌≤◌, Bool, true, false, not, List, [], ◌∷◌, ◌++◌, length, get_or, Option, Some, None, refl, sym, subst, arith}
use Rattle.std.proofs.lemmas.Bool.Decides.{nat_tests}
use Rattle.elf_objects.specs.declared.bad_elf.BadElf.{BadElf}
use Rattle.elf_objects.specs.Breaks.{Test, first_place, break_or, first_broken}
use Rattle.elf_objects.specs.declared.section.Section.{Section}
use Rattle.elf_objects.specs.declared.symbol.Symbol.{Symbol}
use Rattle.elf_objects.specs.Section.{section, section_count}
use Rattle.elf_objects.specs.Names.{HasContents, has_name, section_names, is_unnamed, unnamed_section}
use Rattle.elf_objects.specs.Symbol.{symbol, symbol_count, symbol_place, symbol_names, symbol_tests, is_unnamed_symbol, bad_symbol_table, unnamed_symbol, astray_symbol}
use Rattle.elf_objects.specs.Reloc.{bad_reloc_table, missing_symbol}
use Rattle.elf_objects.specs.Header.{test_at}
use Rattle.elf_objects.specs.Object.{rules, first_break}
use Rattle.elf_objects.proofs.Search.{row_passes}
use Rattle.elf_objects.proofs.Headers.{header_passes}
use Rattle.elf_objects.proofs.NameTables.{has_name-within}

broken_alike : (rule : ℕ) (place : Option ℕ) (other more : Option BadElf) (bad : BadElf) → (other ≡ Some bad → more ≡ Some bad) → break_or rule place other ≡ Some bad → break_or rule place more ≡ Some bad
broken_alike rule None other more bad later is = later is
broken_alike rule (Some place) other more bad later is = is

-- a rule that is broken among the first is the first of all
pub first_broken-append : (rule : ℕ) (rules others : List (List Test)) (bad : BadElf) → first_broken rule rules ≡ Some bad → first_broken rule (rules ++ others) ≡ Some bad
first_broken-append rule [] others bad is = absurd (cc)
first_broken-append rule (tests ∷ rules) others bad is =
    broken_alike rule (first_place tests) (first_broken (suc rule) rules) (first_broken (suc rule) (rules ++ others)) bad (first_broken-append (suc rule) rules others bad) is

-- where none is broken, none of them is
pub none_here : (rule : ℕ) (place : Option ℕ) (other : Option BadElf) → break_or rule place other ≡ None → (place ≡ None) × (other ≡ None)
none_here rule None other none = (refl, none)
none_here rule (Some place) other none = absurd (cc)

pub none_broken : (rule : ℕ) (rules : List (List Test)) → first_broken rule rules ≡ None → (k : ℕ) → first_place (get_or rules k []) ≡ None
none_broken rule [] none k = refl
none_broken rule (tests ∷ rules) none zero = (none_here rule (first_place tests) (first_broken (suc rule) rules) none).0
none_broken rule (tests ∷ rules) none (suc k) = none_broken (suc rule) rules (none_here rule (first_place tests) (first_broken (suc rule) rules) none).1 k

holds_at : (place : ℕ) (is_broken : Bool) → first_place (test_at place is_broken) ≡ None → is_broken ≡ false
holds_at place true none = absurd (cc)
holds_at place false none = refl

is_not : (b : Bool) → not b ≡ false → b ≡ true
is_not true h = refl
is_not false h = sym h

-- each rule's tests find nothing
pub record IsSound (file : List ℕ) : Type 0 where
  pub contents : HasContents file
  pub named_sections : first_place (unnamed_section file) ≡ None
  pub symbol_table : first_place (bad_symbol_table file) ≡ None
  pub named_symbols : first_place (unnamed_symbol file) ≡ None
  pub placed_symbols : first_place (astray_symbol file) ≡ None
  pub reloc_tables : first_place (bad_reloc_table file) ≡ None
  pub reloc_symbols : first_place (missing_symbol file) ≡ None

pub sound : (file : List ℕ) → first_break file ≡ None → IsSound file
unfolding first_break
sound file unbroken =
    let rule = none_broken 1 (rules file) unbroken in
    let long = holds_at 0 _ (rule 0) in
    let inside = holds_at 40 _ (rule 10) in
    record {
      contents = record {
        headers = record { header = grind (arith, nat_tests); sections = grind (arith, nat_tests) };
        names = is_not _ (holds_at 62 _ (rule 11));
        contents = rule 12;
      };
      named_sections = rule 13;
      symbol_table = rule 15;
      named_symbols = rule 16;
      placed_symbols = rule 17;
      reloc_tables = rule 18;
      reloc_symbols = rule 19;
    }

-- each name begins in its table
named_section : (file : List ℕ) (k : ℕ) → is_unnamed file k ≡ false → (section file k).name ≤ length (section_names file)
unfolding is_unnamed
named_section file k named = has_name-within (section_names file) (section file k).name (is_not _ named)

pub section_name_within : (file : List ℕ) (k : ℕ) (s : Section) → first_break file ≡ None → k < section_count file → s ≡ section file k → s.name ≤ length (section_names file)
section_name_within file k s unbroken known is =
    subst (λ (t : Section). t.name ≤ length (section_names file)) (sym is)
    (named_section file k (header_passes file (is_unnamed file) k (sound file unbroken).named_sections known))

-- each name ends in its table
ending_section : (file : List ℕ) (k : ℕ) → is_unnamed file k ≡ false → has_name (section_names file) (section file k).name ≡ true
unfolding is_unnamed
ending_section file k named = is_not _ named

pub section_name_ends : (file : List ℕ) (k : ℕ) (s : Section) → first_break file ≡ None → k < section_count file → s ≡ section file k → has_name (section_names file) s.name ≡ true
section_name_ends file k s unbroken known is =
    subst (λ (t : Section). has_name (section_names file) t.name ≡ true) (sym is)
    (ending_section file k (header_passes file (is_unnamed file) k (sound file unbroken).named_sections known))

named_symbol : (file : List ℕ) (k : ℕ) → is_unnamed_symbol file k ≡ false → (symbol file k).name ≤ length (symbol_names file)
unfolding is_unnamed_symbol
named_symbol file k named = has_name-within (symbol_names file) (symbol file k).name (is_not _ named)

pub symbol_passes : (file : List ℕ) (fails : ℕ → Bool) (k : ℕ) → first_place (symbol_tests file fails) ≡ None → k < symbol_count file → fails k ≡ false
unfolding symbol_tests
symbol_passes file fails k none known = row_passes (symbol_place file) fails (λ i j h. omega arith) (symbol_count file) k none known

pub symbol_name_within : (file : List ℕ) (k : ℕ) (s : Symbol) → first_break file ≡ None → k < symbol_count file → s ≡ symbol file k → s.name ≤ length (symbol_names file)
symbol_name_within file k s unbroken known is =
    subst (λ (t : Symbol). t.name ≤ length (symbol_names file)) (sym is)
    (named_symbol file k (symbol_passes file (is_unnamed_symbol file) k (sound file unbroken).named_symbols known))
