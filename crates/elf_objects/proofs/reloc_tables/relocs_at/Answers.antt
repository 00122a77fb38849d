use Rattle.std.proofs.Common.{ℕ, ◌+◌, ◌*◌}
use Rattle.elf_objects.specs.Reloc.{reloc_at}
use Rattle.elf_objects.proofs.Search.{map_more}
use Rattle.elf_objects.proofs.reloc_tables.relocs_at.Goals as goal

pub loop-index-preserved : goal.loop-index-preserved
loop-index-preserved c =
    map_more (λ (index : ℕ). reloc_at c.args.file.now (c.args.place + 16 * index)) _ _ _ _ c.loop-index.invariant c.in_ok-push.ensures.items c.reloc_at.ensures
