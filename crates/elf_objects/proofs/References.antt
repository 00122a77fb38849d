-- What the rows of an unbroken file refer to is there.
use Rattle.std.proofs.Common.{◌≡◌, ℕ, zero, suc, ◌+◌, ◌/◌, ◌<◌, ◌≤◌, ◌⊎◌, false, List, length, map, Option, Some, None, All, refl, sym, ap, subst, ◌∙◌, ⊎_elim, arith}
use Rattle.std.specs.List.{flat_map, range_with_len}
use Rattle.std.proofs.lemmas.Bool.{cases_lt}
use Rattle.std.proofs.lemmas.Bool.Decides.{nat_tests}
use Rattle.std.proofs.lemmas.List.FromFn.{get_or-map-range_with_len, length-map-range_with_len}
use Rattle.elf_objects.specs.declared.section.Section.{Section}
use Rattle.elf_objects.specs.Breaks.{Test, earlier, first_place}
use Rattle.elf_objects.specs.Section.{section, section_count}
use Rattle.elf_objects.specs.Symbol.{symbol, symbol_count, is_astray}
use Rattle.elf_objects.specs.Reloc.{reloc_place, reloc_at, lacks_symbol, reloc_tests, missing_symbol, relocs_at}
use Rattle.elf_objects.specs.Object.{first_break, sections, symbols}
use Rattle.elf_objects.proofs.Search.{first_place-append, row_passes}
use Rattle.elf_objects.proofs.Relocs.{rel_tests}
use Rattle.elf_objects.proofs.Soundness.{sound, symbol_passes}

-- what holds of each row holds of all
rows_hold : {X : Type 0} (P : X → Type 0) (f : ℕ → X) (count : ℕ) → ((k : ℕ) → k < count → P (f k)) → All P (map f (range_with_len 0 count))
rows_hold P f count each = λ k d known.
    let within : k < count = omega (arith, length-map-range_with_len f 0 count) in
    subst P (sym (get_or-map-range_with_len f 0 count k k d within (omega arith))) (each k within)

astray_not : (file : List ℕ) (k : ℕ) → is_astray file k ≡ false → ((symbol file k).section < section_count file) ⊎ (0xff00 ≤ (symbol file k).section)
unfolding is_astray
astray_not file k not_astray = grind (arith, nat_tests)

-- each symbol's section is there, or its number is reserved
pub symbol_sections : (file : List ℕ) → first_break file ≡ None → All (λ s. (s.section < length (sections file)) ⊎ (0xff00 ≤ s.section)) (symbols file)
symbol_sections file unbroken = rows_hold (λ s. (s.section < length (sections file)) ⊎ (0xff00 ≤ s.section)) (symbol file) (symbol_count file)
    (λ k known. subst (λ n. ((symbol file k).section < n) ⊎ (0xff00 ≤ (symbol file k).section)) (sym (length-map-range_with_len (section file) 0 (section_count file)))
    (astray_not file k (symbol_passes file (is_astray file) k (sound file unbroken).placed_symbols known)))

-- a rule that is broken in none of several lists of tests is broken in none of them
earlier_none : (a b : Option ℕ) → earlier a b ≡ None → (a ≡ None) × (b ≡ None)
earlier_none None b none = (refl, none)
earlier_none (Some a) None none = absurd (cc)
earlier_none (Some a) (Some b) none = absurd (cc)

none_of_each : (tests : ℕ → List Test) (a n k : ℕ) → first_place (flat_map tests (range_with_len a n)) ≡ None → a ≤ k → k < a + n → first_place (tests k) ≡ None
none_of_each tests a zero k none low high = absurd (omega arith)
none_of_each tests a (suc n) k none low high =
    let both = earlier_none _ _ (sym (first_place-append (tests a) (flat_map tests (range_with_len (a + 1) n))) ∙ none) in
    ⊎_elim
    (λ (later : a < k). none_of_each tests (a + 1) n k both.1 (omega arith) (omega arith))
    (λ (here : k ≤ a). let e : k ≡ a = omega arith in ap (λ i. first_place (tests i)) e ∙ both.0)
    (cases_lt a k)

symbol_there : (file : List ℕ) (place : ℕ) → lacks_symbol file place ≡ false → (reloc_at file place).symbol < symbol_count file
unfolding lacks_symbol
symbol_there file place has = grind (arith, nat_tests)

section_tests : (file : List ℕ) (number : ℕ) → first_place (missing_symbol file) ≡ None → number < section_count file → first_place (reloc_tests file number) ≡ None
unfolding missing_symbol
section_tests file number none known = none_of_each (reloc_tests file) 0 (section_count file) number none (omega arith) (omega arith)

-- each relocation's symbol is there
symbols_there : (file : List ℕ) (number : ℕ) → first_break file ≡ None → number < section_count file → (section file number).kind ≡ 9 → All (λ r. r.symbol < length (symbols file)) (relocs_at file (section file number).offset ((section file number).size / 16))
unfolding relocs_at
symbols_there file number unbroken known rel = rows_hold (λ r. r.symbol < length (symbols file)) (λ index. reloc_at file (reloc_place file number index)) ((section file number).size / 16)
    (λ k within. subst (λ n. (reloc_at file (reloc_place file number k)).symbol < n) (sym (length-map-range_with_len (symbol file) 0 (symbol_count file)))
    (symbol_there file (reloc_place file number k) (row_passes (reloc_place file number) (λ index. lacks_symbol file (reloc_place file number index)) (λ i j h. omega arith) ((section file number).size / 16) k
    (sym (ap first_place (rel_tests file number (section file number) refl rel)) ∙ section_tests file number (sound file unbroken).reloc_symbols known) within)))

pub reloc_symbols : (file : List ℕ) (number : ℕ) (s : Section) → first_break file ≡ None → number < section_count file → s ≡ section file number → s.kind ≡ 9 → All (λ r. r.symbol < length (symbols file)) (relocs_at file s.offset (s.size / 16))
reloc_symbols file number s unbroken known is rel =
    subst (λ (t : Section). All (λ r. r.symbol < length (symbols file)) (relocs_at file t.offset (t.size / 16))) (sym is)
    (symbols_there file number unbroken known (sym (ap (λ (t : Section). t.kind) is) ∙ rel))
