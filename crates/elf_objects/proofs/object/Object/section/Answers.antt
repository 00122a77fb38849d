use Rattle.std.proofs.Common.{length, ◌∙◌, ap, arith}
use Rattle.elf_objects.specs.Section.{section, section_count}
use Rattle.elf_objects.specs.Object.{sections}
use Rattle.elf_objects.proofs.Rows.{row_at, row_known}
use Rattle.elf_objects.proofs.object.Object.section.Goals as goal

pub returns-clause-known : goal.returns-clause-known
returns-clause-known c = row_known (section c.args.self.now) (section_count c.args.self.now) c.args.number c.requires

pub returns-clause-section : goal.returns-clause-section
returns-clause-section c =
    let rows = c.self.invariant.has_sections ∙ ap sections c.self.view_is in
    let counted = ap length rows in
    c.index.ensures ∙ row_at (section c.args.self.now) (section_count c.args.self.now) c.self.inside.sections.items c.args.number _ rows (omega arith)
