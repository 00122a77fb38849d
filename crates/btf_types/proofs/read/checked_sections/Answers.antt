use Rattle.std.proofs.Common.{sym, ◌∙◌}
use Rattle.std.proofs.lemmas.Result.{err_from_is_err_and}
use Rattle.btf_types.proofs.Breaking.{broken_in_header, broken_in_names, broken_in_walk, left_to_references}
use Rattle.btf_types.proofs.read.checked_sections.Goals as goal

pub returns-in_err-sections-clause-breaks : goal.returns-in_err-sections-clause-breaks
returns-in_err-sections-clause-breaks c =
    let p = err_from_is_err_and c.from_residual.result c.from_residual.ensures.1 in
    rw (p.1, p.2) (broken_in_header c.args.bytes.now c.in_err-sections.field-0.0 c.in_err-sections.ensures.rules)

pub returns-in_err-count-clause-breaks : goal.returns-in_err-count-clause-breaks
returns-in_err-count-clause-breaks c =
    let p = err_from_is_err_and c.from_residual-in_err-count.result c.from_residual-in_err-count.ensures.1 in
    let sections = c.in_ok-sections.sections in
    let are = c.in_ok-sections.ensures in
    rw (p.1, p.2) (broken_in_walk c.args.bytes.now sections.types.now sections.strings.now sections.types_end are.types are.strings are.types_end are.rules c.in_err-count.field-0.0 c.in_err-count.ensures.rules)

pub returns-in-Some-clause-breaks : goal.returns-in-Some-clause-breaks
returns-in-Some-clause-breaks c =
    let sections = c.in_ok-sections.sections in
    let are = c.in_ok-sections.ensures in
    broken_in_names c.args.bytes.now sections.types.now sections.strings.now sections.types_end are.types are.strings are.types_end are.rules c.in_ok-count.ensures.rules c.in-Some.bad (sym c.in-Some.ensures)

pub returns-in-Some-reference_break-clause-breaks : goal.returns-in-Some-reference_break-clause-breaks
returns-in-Some-reference_break-clause-breaks c =
    let sections = c.in_ok-sections.sections in
    let are = c.in_ok-sections.ensures in
    left_to_references c.args.bytes.now sections.types.now sections.strings.now sections.types_end are.types are.strings are.types_end are.rules c.in_ok-count.ensures.rules (sym c.in_default.ensures) c.in_ok-count.count c.in_ok-count.ensures.count
    ∙ sym c.in-Some-reference_break.ensures

pub returns-clause-breaks : goal.returns-clause-breaks
returns-clause-breaks c =
    let sections = c.in_ok-sections.sections in
    let are = c.in_ok-sections.ensures in
    left_to_references c.args.bytes.now sections.types.now sections.strings.now sections.types_end are.types are.strings are.types_end are.rules c.in_ok-count.ensures.rules (sym c.in_default.ensures) c.in_ok-count.count c.in_ok-count.ensures.count
    ∙ sym c.in_default-reference_break.ensures
