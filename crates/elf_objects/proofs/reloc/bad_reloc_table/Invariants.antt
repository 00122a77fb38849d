use Rattle.std.proofs.Common.{◌≡◌, ℕ, ◌<◌, false}
use Rattle.elf_objects.specs.Reloc.{is_bad_reloc_table}
use Rattle.elf_objects.proofs.reloc.bad_reloc_table.Given as goal

abbrev pub invariant-loop-number : goal.invariant-loop-number
invariant-loop-number l = (k : ℕ) → k < l.number → is_bad_reloc_table l.file k ≡ false
