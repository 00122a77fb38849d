use Rattle.std.proofs.Common.{◌≡◌, map}
use Rattle.std.specs.List.{range_with_len}
use Rattle.elf_objects.specs.RelocTables.{reloc_table}
use Rattle.elf_objects.proofs.reloc_tables.RelocTables.read.Given as goal

abbrev pub invariant-loop-remainder : goal.invariant-loop-remainder
invariant-loop-remainder l = map (λ table. table.items) l.tables.items ≡ map (reloc_table l.file) (range_with_len 0 l.remainder)
