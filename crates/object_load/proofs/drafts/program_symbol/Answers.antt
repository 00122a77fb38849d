use Rattle.std.proofs.Common.{◌%◌, ◌+◌, ◌<◌, ◌≤◌, ◌∙◌, ap, length, subst, sym, arith}
use Rattle.elf_objects.specs.declared.symbol.Symbol.{Symbol}
use Rattle.elf_objects.specs.Object.{content, sections}
use Rattle.object_load.proofs.Counts.{sections_counted}
use Rattle.object_load.proofs.ProgramSymbols.{function_within, program_whole, section_known}
use Rattle.object_load.proofs.drafts.program_symbol.Goals as goal

pub returns-clause-section : goal.returns-clause-section
returns-clause-section c =
    let file = c.args.object.now in
    let known = section_known file c.args.index c.requires in
    let count = sections_counted file in
    subst (λ (s : Symbol). s.section < length (sections file)) (sym c.symbol.ensures.symbol) (omega arith)

pub returns-clause-slots : goal.returns-clause-slots
returns-clause-slots c = ap (λ (s : Symbol). s.size % 8) c.symbol.ensures.symbol ∙ (program_whole c.args.object.now c.args.index c.requires).whole

pub returns-clause-within : goal.returns-clause-within
returns-clause-within c =
    let file = c.args.object.now in
    subst (λ (s : Symbol). s.value + s.size ≤ length (content file s.section)) (sym c.symbol.ensures.symbol) (function_within file c.args.index c.symbol.ensures.unbroken c.requires)
