use Rattle.std.proofs.Common.{◌≡◌, ℕ, ◌<◌, false}
use Rattle.elf_objects.specs.Symbol.{is_bad_symbol_table}
use Rattle.elf_objects.proofs.symbol.bad_symbol_table.Given as goal

abbrev pub invariant-loop-number : goal.invariant-loop-number
invariant-loop-number l = (k : ℕ) → k < l.number → is_bad_symbol_table l.file k ≡ false
