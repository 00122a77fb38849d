use Rattle.std.proofs.Common.{◌≡◌, ℕ, ◌<◌, true, false, length}
use Rattle.elf_objects.specs.Reloc.{lacks_symbol}
use Rattle.elf_objects.specs.RelocMarks.{has_mark}
use Rattle.elf_objects.proofs.reloc_marks.clean_marks.Given as goal

-- of the places so far, one that lacks its symbol has no mark
abbrev pub invariant-loop-place : goal.invariant-loop-place
invariant-loop-place l = record {
  len : length l.marks ≡ 4096;
  seen : (k : ℕ) → k < l.place → has_mark l.marks k ≡ true → lacks_symbol l.file k ≡ false;
}
