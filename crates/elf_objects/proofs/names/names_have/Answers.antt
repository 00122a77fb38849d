use Rattle.std.proofs.Common.{refl, ◌∙◌}
use Rattle.elf_objects.proofs.NameFronts.{whole}
use Rattle.elf_objects.proofs.names.names_have.Goals as goal

pub returns : goal.returns
returns c = c.begin_with_name.ensures ∙ whole c.args.table.now c.args.place _ c.args.name.now refl c.requires.ends c.requires.text
