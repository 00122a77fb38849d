use Rattle.std.proofs.Common.{◌≡◌, map}
use Rattle.std.specs.List.{range_with_len}
use Rattle.elf_objects.specs.Symbol.{symbol}
use Rattle.elf_objects.proofs.symbol.read_symbols.Given as goal

abbrev pub invariant-loop-index : goal.invariant-loop-index
invariant-loop-index l = l.rows.items ≡ map (symbol l.file) (range_with_len 0 l.index)
