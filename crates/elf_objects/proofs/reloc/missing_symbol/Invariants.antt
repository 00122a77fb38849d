use Rattle.std.proofs.Common.{◌≡◌}
use Rattle.std.specs.List.{flat_map, range_with_len}
use Rattle.elf_objects.specs.Breaks.{first_place}
use Rattle.elf_objects.specs.Reloc.{reloc_tests}
use Rattle.elf_objects.proofs.reloc.missing_symbol.Given as goal

abbrev pub invariant-loop-number : goal.invariant-loop-number
invariant-loop-number l = l.least ≡ first_place (flat_map (reloc_tests l.file) (range_with_len 0 l.number))
