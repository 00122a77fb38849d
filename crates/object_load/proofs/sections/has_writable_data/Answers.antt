use Rattle.std.proofs.Common.{sym, ◌∙◌, arith}
use Rattle.elf_objects.specs.Section.{section_count}
use Rattle.object_load.specs.Sections.{has_writable_data, is_writable}
use Rattle.object_load.proofs.Counts.{sections_counted}
use Rattle.object_load.proofs.Ranges.{any_absent, any_found}
use Rattle.object_load.proofs.sections.has_writable_data.Goals as goal

pub returns-then-is_writable : goal.returns-then-is_writable
unfolding has_writable_data
returns-then-is_writable c =
    let file = c.args.object.now in
    let count = sections_counted file in
    sym (any_found (is_writable file) (section_count file) c.loop-number.number (omega arith) (sym c.is_writable.ensures ∙ c.if-is_writable.true))

pub returns : goal.returns
unfolding has_writable_data
returns c =
    let file = c.args.object.now in
    let count = sections_counted file in
    sym (any_absent (is_writable file) (section_count file) (λ k below. c.loop-number.invariant k (omega arith)))
