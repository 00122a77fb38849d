use Rattle.std.proofs.Common.{◌≡◌, ℕ, ◌<◌, false}
use Rattle.elf_objects.specs.Section.{is_compressed}
use Rattle.elf_objects.proofs.section.compressed_section.Given as goal

abbrev pub invariant-loop-number : goal.invariant-loop-number
invariant-loop-number l = (k : ℕ) → k < l.number → is_compressed l.file k ≡ false
