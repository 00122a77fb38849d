use Rattle.elf_objects.proofs.Contents.{content_fits}
use Rattle.elf_objects.proofs.section.content_at.Goals as goal

pub content_of-requires : goal.content_of-requires
content_of-requires c = content_fits c.args.file.now c.args.number _ c.requires.contents c.requires.number c.section_at.ensures
