use Rattle.std.proofs.Common.{◌≡◌, ◌<◌, length}
use Rattle.std.specs.List.{All, flat_map, range_with_len}
use Rattle.elf_objects.specs.Object.{symbols}
use Rattle.object_load.specs.Linking.{relocs_from}
use Rattle.object_load.proofs.pieces.relocs_for.Given as goal

abbrev pub invariant-loop-number : goal.invariant-loop-number
invariant-loop-number l = record {
  found : l.found ≡ flat_map (relocs_from l.object l.target) (range_with_len 0 l.number);
  symbols : All (λ reloc. reloc.symbol < length (symbols l.object)) l.found;
}
