use Rattle.std.proofs.Common.{sym, ◌∙◌, arith}
use Rattle.elf_objects.specs.Section.{section_count}
use Rattle.elf_objects.proofs.Search.{find_none, find_some}
use Rattle.object_load.specs.Sections.{has_name, section_named}
use Rattle.object_load.proofs.Counts.{sections_counted}
use Rattle.object_load.proofs.sections.section_named.Goals as goal

pub returns-then-section_is-clause-section : goal.returns-then-section_is-clause-section
unfolding section_named has_name
returns-then-section_is-clause-section c =
    let file = c.args.object.now in
    let count = sections_counted file in
    sym (find_some (has_name file c.args.name.now) (section_count file) c.loop-number.number c.loop-number.invariant (omega arith) (sym c.section_is.ensures ∙ c.if-section_is.true))

pub returns-clause-section : goal.returns-clause-section
unfolding section_named
returns-clause-section c =
    let file = c.args.object.now in
    let count = sections_counted file in
    sym (find_none (has_name file c.args.name.now) (section_count file) (λ k below. c.loop-number.invariant k (omega arith)))
