-- A row of a table that is made row by row.
use Rattle.std.proofs.Common.{◌≡◌, ℕ, ◌+◌, ◌*◌, ◌-◌, ◌/◌, ◌%◌, ◌<◌, ◌≤◌, true, ◌&&◌, ◌==◌, cond, List, [], length, get_or, take, drop, map, refl, sym, ap, ◌∙◌, arith}
use Rattle.std.specs.List.{list_any, range_with_len}
use Rattle.std.proofs.lemmas.Bool.{eq-eqb}
use Rattle.std.proofs.lemmas.List.{get_or-drop, get_or-take, length-drop, length-take}
use Rattle.std.proofs.lemmas.List.FromFn.{get_or-map-range_with_len, length-map-range_with_len, fill_by_all}
use Rattle.std.proofs.lemmas.List.Folds.{list_any_at}
use Rattle.elf_objects.specs.declared.section.Section.{Section}
use Rattle.elf_objects.specs.declared.reloc.Reloc.{Reloc}
use Rattle.elf_objects.specs.Section.{section, section_count}
use Rattle.elf_objects.specs.Reloc.{reloc_at, relocs_at}
use Rattle.elf_objects.specs.RelocTables.{has_relocs_from, reloc_table, reloc_tables}
use Rattle.elf_objects.specs.Object.{sections}

-- the row of a number
pub row_at : {X : Type 0} (f : ℕ → X) (count : ℕ) (rows : List X) (k : ℕ) (d : X) → rows ≡ map f (range_with_len 0 count) → k < length rows → get_or rows k d ≡ f k
row_at f count rows k d is within =
    let counted = ap length is ∙ length-map-range_with_len f 0 count in
    ap (λ xs. get_or xs k d) is ∙ get_or-map-range_with_len f 0 count k k d (omega arith) (omega arith)

pub row_known : {X : Type 0} (f : ℕ → X) (count k : ℕ) → k < length (map f (range_with_len 0 count)) → k < count
row_known f count k within = omega (arith, length-map-range_with_len f 0 count)

-- a part of so many relocations is so many relocations from a later place on
part_of_relocs : (file : List ℕ) (start first all count place : ℕ) → first + count ≤ all → place ≡ start + 16 * first → take count (drop first (relocs_at file start all)) ≡ relocs_at file place count
unfolding relocs_at
part_of_relocs file start first all count place within is =
    let f = λ (index : ℕ). reloc_at file (start + 16 * index) in
    let rows = map f (range_with_len 0 all) in
    let none : Reloc = record { offset = 0; symbol = 0; kind = 0 } in
    let counted = length-map-range_with_len f 0 all in
    fill_by_all (λ index. reloc_at file (place + 16 * index)) (take count (drop first rows)) count none
    (simp (length-take, length-drop) (omega arith))
    (λ k below. get_or-take count (drop first rows) k none below ∙ get_or-drop first rows k none
    ∙ get_or-map-range_with_len f 0 all (first + k) (first + k) none (omega arith) (omega arith)
    ∙ ap (reloc_at file) (omega arith))

length-relocs_at : (file : List ℕ) (place count : ℕ) → length (relocs_at file place count) ≡ count
unfolding relocs_at
length-relocs_at file place count = length-map-range_with_len (λ index. reloc_at file (place + 16 * index)) 0 count

-- the table that a REL's relocations are kept in
module _ (file : List ℕ) (k : ℕ) (s : Section) (known : k < section_count file) (is : s ≡ section file k) (rel : s.kind ≡ 9) (fits : s.offset + s.size ≤ length file) where
  is_kept : list_any (has_relocs_from (s.offset % 16)) (sections file) ≡ true
  is_kept =
      let count = length-map-range_with_len (section file) 0 (section_count file) in
      let row : get_or (sections file) k s ≡ s = get_or-map-range_with_len (section file) 0 (section_count file) k k s known (omega arith) ∙ sym is in
      list_any_at (has_relocs_from (s.offset % 16)) (sections file) k s (omega arith)
      (ap (has_relocs_from (s.offset % 16)) row ∙ ap (λ b. b && (s.offset % 16 == s.offset % 16)) (eq-eqb s.kind 9 rel) ∙ eq-eqb (s.offset % 16) (s.offset % 16) refl)

  its_table : get_or (reloc_tables file) (s.offset % 16) [] ≡ relocs_at file (s.offset % 16) ((length file - s.offset % 16) / 16)
  unfolding reloc_table
  its_table =
      get_or-map-range_with_len (reloc_table file) 0 16 (s.offset % 16) (s.offset % 16) [] (omega arith) (omega arith)
      ∙ ap (λ b. relocs_at file (s.offset % 16) (cond b ((length file - s.offset % 16) / 16) 0)) is_kept

  pub part_within : s.offset / 16 + s.size / 16 ≤ length (get_or (reloc_tables file) (s.offset % 16) [])
  part_within = let counted = ap length its_table ∙ length-relocs_at file (s.offset % 16) ((length file - s.offset % 16) / 16) in omega arith

  part_is : take (s.size / 16) (drop (s.offset / 16) (get_or (reloc_tables file) (s.offset % 16) [])) ≡ relocs_at file s.offset (s.size / 16)
  part_is =
      ap (λ (rows : List Reloc). take (s.size / 16) (drop (s.offset / 16) rows)) its_table
      ∙ part_of_relocs file (s.offset % 16) (s.offset / 16) ((length file - s.offset % 16) / 16) (s.size / 16) s.offset (omega arith) (omega arith)

  -- what is sliced out of the tables is what the section holds
  pub slice_is : (tables : List (List Reloc)) (rows : List Reloc) → tables ≡ reloc_tables file → rows ≡ take (s.size / 16) (drop (s.offset / 16) (get_or tables (s.offset % 16) [])) → rows ≡ relocs_at file s.offset (s.size / 16)
  slice_is tables rows kept sliced =
      sliced ∙ ap (λ (all : List (List Reloc)). take (s.size / 16) (drop (s.offset / 16) (get_or all (s.offset % 16) []))) kept ∙ part_is
