use Rattle.std.proofs.Common.{◌≡◌, ℕ, ◌<◌, ◌-◌, ◌/◌, ◌+◌, false}
use Rattle.elf_objects.specs.Reloc.{reloc_place, lacks_symbol}
use Rattle.elf_objects.proofs.reloc.missing_symbol_in.Given as goal

-- no relocation so far lacks its symbol
abbrev pub invariant-loop-index : goal.invariant-loop-index
invariant-loop-index l = record {
  passed : (k : ℕ) → k < l.index → k < l.section.size / 16 → lacks_symbol l.file (reloc_place l.file l.number k) ≡ false;
  within : l.index < l.section.size / 16 + 4096;
}

abbrev pub decreases-loop-index : goal.decreases-loop-index
decreases-loop-index l = l.section.size / 16 + 4096 - l.index
