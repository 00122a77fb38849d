use Rattle.std.proofs.Common.{◌≤◌, ℕ, List, length, ap, subst, sym, ◌∙◌}
use Rattle.elf_objects.specs.Names.{section_names}
use Rattle.elf_objects.proofs.Soundness.{section_name_within}
use Rattle.elf_objects.proofs.object.Object.section_begins_with.Goals as goal

pub names_begin_with-requires-clause-place : goal.names_begin_with-requires-clause-place
names_begin_with-requires-clause-place c =
    let file = c.args.self.now in
    let table = c.self.invariant.has_section_names ∙ ap section_names c.self.view_is in
    subst (λ (names : List ℕ). c.section.result.name ≤ length names) (sym table)
    (section_name_within file c.args.section c.section.result c.section.ensures.unbroken c.section.ensures.known c.section.ensures.section)
