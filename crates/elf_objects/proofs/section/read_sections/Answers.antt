use Rattle.elf_objects.specs.Section.{section}
use Rattle.elf_objects.proofs.Search.{map_more}
use Rattle.elf_objects.proofs.section.read_sections.Goals as goal

pub loop-number-preserved : goal.loop-number-preserved
loop-number-preserved c = map_more (section c.args.file.now) _ _ _ _ c.loop-number.invariant c.in_ok-push.ensures.items c.section_at.ensures
