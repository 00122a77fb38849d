use Rattle.std.proofs.Common.{◌≡◌, ℕ, ◌<◌, false}
use Rattle.elf_objects.specs.Symbol.{is_unnamed_symbol}
use Rattle.elf_objects.proofs.symbol.unnamed_symbol.Given as goal

abbrev pub invariant-loop-index : goal.invariant-loop-index
invariant-loop-index l = (k : ℕ) → k < l.index → is_unnamed_symbol l.file k ≡ false
