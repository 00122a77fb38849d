use Rattle.std.proofs.Common.{◌≡◌, ◌+◌, ◌*◌, map}
use Rattle.std.specs.List.{range_with_len}
use Rattle.elf_objects.specs.Reloc.{reloc_at}
use Rattle.elf_objects.proofs.reloc_tables.relocs_at.Given as goal

abbrev pub invariant-loop-index : goal.invariant-loop-index
invariant-loop-index l = l.relocs.items ≡ map (λ index. reloc_at l.file (l.place + 16 * index)) (range_with_len 0 l.index)
