use Rattle.std.proofs.Common.{map, ap, ◌∙◌}
use Rattle.std.proofs.lemmas.List.{map-append}
use Rattle.elf_objects.specs.RelocTables.{reloc_table}
use Rattle.elf_objects.proofs.Search.{map_more}
use Rattle.elf_objects.proofs.reloc_tables.RelocTables.read.Goals as goal

pub loop-remainder-preserved : goal.loop-remainder-preserved
loop-remainder-preserved c =
    map_more (reloc_table c.args.file.now) _ _ _ _ c.loop-remainder.invariant
    (ap (map (λ table. table.items)) c.in_ok-push.ensures.items ∙ map-append (λ table. table.items) _ _) c.in_ok-reloc_table.ensures
