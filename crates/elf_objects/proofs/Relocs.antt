-- The tests of a section's relocations.
use Rattle.std.proofs.Common.{◌≡◌, ◌≢◌, ℕ, ◌/◌, Bool, cond, List, [], sym, ap, ◌∙◌}
use Rattle.std.proofs.lemmas.Bool.{eq-eqb, ne_eqb}
use Rattle.elf_objects.specs.declared.section.Section.{Section}
use Rattle.elf_objects.specs.Breaks.{row_tests}
use Rattle.elf_objects.specs.Section.{section}
use Rattle.elf_objects.specs.Reloc.{reloc_place, lacks_symbol, reloc_tests}

module _ (file : List ℕ) (number : ℕ) (s : Section) (is : s ≡ section file number) where
  pub rel_tests : s.kind ≡ 9 → reloc_tests file number ≡ row_tests (reloc_place file number) (λ index. lacks_symbol file (reloc_place file number index)) ((section file number).size / 16)
  unfolding reloc_tests
  rel_tests rel =
      ap (λ (b : Bool). cond b (row_tests (reloc_place file number) (λ index. lacks_symbol file (reloc_place file number index)) ((section file number).size / 16)) [])
      (eq-eqb (section file number).kind 9 (sym (ap (λ (t : Section). t.kind) is) ∙ rel))

  pub no_rel_tests : s.kind ≢ 9 → reloc_tests file number ≡ []
  unfolding reloc_tests
  no_rel_tests other =
      ap (λ (b : Bool). cond b (row_tests (reloc_place file number) (λ index. lacks_symbol file (reloc_place file number index)) ((section file number).size / 16)) [])
      (ne_eqb (section file number).kind 9 (λ rel. other (ap (λ (t : Section). t.kind) is ∙ rel)))
