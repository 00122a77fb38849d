use Rattle.std.proofs.Common.{ap, sym, ◌∙◌}
use Rattle.std.proofs.lemmas.List.FromFn.{length-map-range_with_len}
use Rattle.elf_objects.specs.Section.{section, section_count}
use Rattle.elf_objects.proofs.Soundness.{sound}
use Rattle.elf_objects.proofs.object.Object.section_count.Goals as goal

pub section_count-requires : goal.section_count-requires
section_count-requires c = (sound c.self.inside.file.now c.self.invariant.unbroken).contents.headers

pub returns : goal.returns
returns c =
    let file = c.args.self.now in
    c.section_count.ensures ∙ ap section_count c.self.view_is ∙ sym (length-map-range_with_len (section file) 0 (section_count file))
