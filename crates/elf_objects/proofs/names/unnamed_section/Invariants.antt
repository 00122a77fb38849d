use Rattle.std.proofs.Common.{◌≡◌, ℕ, ◌<◌, false}
use Rattle.elf_objects.specs.Names.{is_unnamed}
use Rattle.elf_objects.proofs.names.unnamed_section.Given as goal

abbrev pub invariant-loop-number : goal.invariant-loop-number
invariant-loop-number l = (k : ℕ) → k < l.number → is_unnamed l.file k ≡ false
