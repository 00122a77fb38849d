-- Marks of blocks, as they are made and read.
use Rattle.std.proofs.Common.{◌≡◌, ℕ, ◌+◌, ◌*◌, ◌<◌, ◌≤◌, Bool, true, false, List, length, get_or, set, sym, ap, ◌∙◌, subst, inl, inr, arith}
use Rattle.std.proofs.lemmas.Bool.{cases_eq, false≢true}
use Rattle.std.proofs.lemmas.Bool.Decides.{nat_tests}
use Rattle.std.proofs.lemmas.List.{get_or-set_other, get_or-set_same, length-set}
use Rattle.elf_objects.specs.Reloc.{lacks_symbol}
use Rattle.elf_objects.specs.RelocMarks.{AreClean, has_mark, left_in_block, mark_of}

-- what a mark is, and what it says of the list
marked : (marks : List Bool) (k : ℕ) → has_mark marks k ≡ true → (mark_of k < length marks) × (get_or marks (mark_of k) false ≡ true)
unfolding has_mark
marked marks k h = (grind (arith, nat_tests), grind (arith, nat_tests))

marked_by : (marks : List Bool) (k : ℕ) → mark_of k < length marks → get_or marks (mark_of k) false ≡ true → has_mark marks k ≡ true
unfolding has_mark
marked_by marks k known h = grind (arith, nat_tests)

-- a mark that stands after one was taken away stood before, and isn't that one
still_marked : (marks : List Bool) (place k : ℕ) → has_mark (set marks (mark_of place) false) k ≡ true → (has_mark marks k ≡ true) × ((k ≡ place) → ⊥)
still_marked marks place k h =
    let is = marked (set marks (mark_of place) false) k h in
    let known : mark_of k < length marks = omega (arith, is.0, length-set marks (mark_of place) false) in
    elim (cases_eq (mark_of k) (mark_of place)) [
      | inl same ↦ absurd (false≢true (sym (get_or-set_same marks (mark_of place) false false (subst (λ m. m < length marks) same known)) ∙ ap (λ m. get_or (set marks (mark_of place) false) m false) (sym same) ∙ is.1))
      | inr other ↦ (marked_by marks k known (sym (get_or-set_other marks (mark_of place) (mark_of k) false false other) ∙ is.1), λ e. other (ap mark_of e))
    ]

module _ (file : List ℕ) (marks : List Bool) (place : ℕ) (seen : (k : ℕ) → k < place → has_mark marks k ≡ true → lacks_symbol file k ≡ false) where
  -- one place more, which has its symbol
  pub marks_kept : lacks_symbol file place ≡ false → (k : ℕ) → k < place + 1 → has_mark marks k ≡ true → lacks_symbol file k ≡ false
  marks_kept has k below mark = elim (cases_eq k place) [ inl e ↦ rw e has | inr n ↦ seen k (omega arith) mark ]

  -- one that lacks it takes its mark away
  pub marks_taken : (k : ℕ) → k < place + 1 → has_mark (set marks (mark_of place) false) k ≡ true → lacks_symbol file k ≡ false
  marks_taken k below mark =
      let before = still_marked marks place k mark in
      elim (cases_eq k place) [ inl e ↦ absurd (before.1 e) | inr n ↦ seen k (omega arith) before.0 ]

pub mark_below : (place : ℕ) → place < 16777216 → mark_of place < 4096
unfolding mark_of
mark_below place small = omega arith

-- no place behind the marks has one
past_marks : (marks : List Bool) (place : ℕ) → length marks ≡ 4096 → has_mark marks place ≡ true → place < 16777216
unfolding mark_of
past_marks marks place len h = let is = marked marks place h in omega (arith, is.0, len)

pub marks_all : (file : List ℕ) (marks : List Bool) (end : ℕ) → length marks ≡ 4096 → ((place : ℕ) → place + 16 ≤ length file → place < 16777216 → place < end) → ((k : ℕ) → k < end → has_mark marks k ≡ true → lacks_symbol file k ≡ false) → AreClean file marks
marks_all file marks end len reach seen = record {
  each = λ place within mark. seen place (reach place within (past_marks marks place len mark)) mark;
}

-- places of one remainder in one block have one mark
same_mark : (place k : ℕ) → k < left_in_block place → mark_of (place + 16 * k) ≡ mark_of place
unfolding mark_of left_in_block
same_mark place k before = omega arith

-- so none of the relocations that are left in a clean block lacks its symbol
pub clean_behind : (file : List ℕ) (marks : List Bool) (place k : ℕ) → AreClean file marks → has_mark marks place ≡ true → k < left_in_block place → place + 16 * k + 16 ≤ length file → lacks_symbol file (place + 16 * k) ≡ false
clean_behind file marks place k are mark before within =
    let is = marked marks place mark in
    let same = same_mark place k before in
    are.each (place + 16 * k) within (marked_by marks (place + 16 * k) (rw same is.0) (rw same is.1))
