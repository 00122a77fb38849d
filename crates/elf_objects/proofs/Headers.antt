-- The section headers' tests, as a loop over the sections' numbers makes them.
use Rattle.std.proofs.Common.{◌≡◌, ℕ, ◌<◌, Bool, true, false, List, Some, None, arith}
use Rattle.elf_objects.specs.Breaks.{first_place}
use Rattle.elf_objects.specs.Section.{section_count, header_place, header_tests}
use Rattle.elf_objects.proofs.Search.{first_row, no_row, row_passes}

module _ (file : List ℕ) (fails : ℕ → Bool) where
  pub first_header : (k : ℕ) → ((j : ℕ) → j < k → fails j ≡ false) → k < section_count file → fails k ≡ true → first_place (header_tests file fails) ≡ Some (header_place file k)
  unfolding header_tests
  first_header k passed known here = first_row (header_place file) fails (λ i j h. omega arith) (section_count file) k passed known here

  pub no_header : ((j : ℕ) → j < section_count file → fails j ≡ false) → first_place (header_tests file fails) ≡ None
  unfolding header_tests
  no_header passed = no_row (header_place file) fails (λ i j h. omega arith) (section_count file) passed

  pub header_passes : (k : ℕ) → first_place (header_tests file fails) ≡ None → k < section_count file → fails k ≡ false
  unfolding header_tests
  header_passes k none known = row_passes (header_place file) fails (λ i j h. omega arith) (section_count file) k none known
